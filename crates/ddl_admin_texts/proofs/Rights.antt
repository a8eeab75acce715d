-- GRANT and REVOKE: each part of their grammar with the text that it is written in.
use Rattle.ddl_admin_texts.proofs.Common.{arith, ◌≡◌, ◌||◌, OptionFit, after_as, ℕ, Bool, true, false, not, cond, ◌&&◌, List, [], ◌∷◌, ◌++◌, map, append_assoc, append-nil, Option, Some, None, Ok, refl, sym, ap, subst, ◌∙◌, inl, inr, codes, flat_map, is_utf8, chars, encode, and_parts, not-true, Word, is_keyword_of, name_of, written_kind, written_name, IsName, Rights, Granted, Stmt, no_rights, has_rights, Lexeme, is_word, comma, Part, ◌then◌, ◌▸◌, name, name_value, name_in, joined, only_if, is_all, with_commas, right_list, rights_text, granted_words, granted_name, grantee_text, with_right, only, within, kind_rights, goes_with, right_first, wanted_first, wanted, joining, right_behind, more_rights, all_of, rights_from, kind_has, having, kind_with, rights_on, object, on_object, rights_and_object, grantee_of, grantee, truth_first, set_behind, inherit_and_set, others_behind, options, with_options, granted_by, member, member_of, membership, grant_option, to_grantee, from_grantee, grant_rights, revoke_rights, first, behind_first, granted, revoked, Behind, Anything, Words, Safe, End, admits, covers, through, looser, put_as, joined-append, none, space, name_token, value_name, Written, given_or, or_given, is_bare_word, Says, word_said, name_said, is_key, comma_as, ending, mark_as, name_as, path_as, then_as, lead_as, word_then, end_as, seen_as, is_as, like_as, pieces_as, choose_as, heard_as, also_as, AllFit, items_pieces, many_as, IsGranted, IsRevoked, fit_as, grant_text, revoke_text, member_text}
use Rattle.cat_model.specs.declared.grant.Grantee.{Grantee}
use Rattle.ddl_forms.specs.Roles.{truth as truth_word}
use Rattle.ddl_grammar.proofs.Meanings.{object_on, right_word, wanted_is}
use Rattle.ddl_admin_texts.proofs.RightSets.{has_some, has_it, kind_some, kind_whole, all_is, listed_is, some_listed, written_word, words_are, AllGo, all_go}
use Rattle.ddl_grammar.specs.{declared.rights.Right.Right, declared.rights.Right.TheVariants.Select, declared.rights.Kind.Kind, declared.rights.Kind.TheVariants.Tables, declared.rights.Kind.TheVariants.Sequences, declared.rights.Kind.TheVariants.Schemas, declared.rights.Kind.TheVariants.Types, declared.rights.Wanted.Wanted, declared.rights.Wanted.TheVariants.All, declared.rights.Wanted.TheVariants.These, Depending.◌thenby◌, Values.told, RightsGrammar.kind_first, Memberships.truth, Grants.First, Grants.named_by, Writable.kind_of, Writable.IsObject, Writable.AreRights, Writable.IsGrantee, Writable.IsGrantor, LeafParts.granted_words as grant_words, LeafParts.revoked_words as revoke_words}
use Rattle.cat_model.specs.declared.grant.Granted.TheVariants as on
use Rattle.cat_model.specs.declared.grant.Grantee.TheVariants as grantees
use Rattle.cat_model.specs.declared.stmt.Stmt.TheVariants as stmt

-- ---- a part whose value decides what stands behind it

-- it begins with what this opens, before what may stand behind it, and closes where that is asked
abbrev pub lies_within : {A : Type 0} → {p : Part A} → Behind → Behind → Bool → Written p → Bool
lies_within opens m closed w = covers w.after m && (covers opens w.opens && (not w.lacks && (not closed || w.closed)))

-- the same part, where this alone is known of it
abbrev pub within_as : {A : Type 0} → {p : Part A} → (opens m : Behind) → (closed : Bool) → (w : Written p) → lies_within opens m closed w ≡ true → Written p
within_as opens m closed w e =
    let ends = and_parts (covers w.after m) (covers opens w.opens && (not w.lacks && (not closed || w.closed))) e in
    let begins = and_parts (covers opens w.opens) (not w.lacks && (not closed || w.closed)) ends.1 in
    let some = and_parts (not w.lacks) (not closed || w.closed) begins.1 in
    record (after_as w m ends.0) {
      opens = opens;
      lacks = false;
      closed = closed;
      begins = λ v fit n c rest h. w.begins v fit n (through n opens w.opens c begins.0) rest (ap (λ (l : Bool). admits (cond l n Anything) rest) (not-true w.lacks some.0));
      closes = λ is. w.closes (ap (λ (b : Bool). not b || w.closed) (sym is) ∙ some.1);
    }

abbrev pub thenby_as : {A B : Type 0} → {p : Part A} → {f : A → Part B} → (a : Written p) → (b : (v : A) → Written (f v)) → (opens m : Behind) → (closed : Bool) → ((v : A) → lies_within opens m closed (b v) ≡ true) → (covers a.after opens && covers Anything m) ≡ true → Written (p thenby f)
thenby_as {A} {p = p} {f = f} a b opens m closed e meet =
    let whole : (v : A) → Written (p then f v) = λ v. then_as a (within_as opens m closed (b v) (e v)) meet in
    record {
      Fit = λ w. (v : A) × a.Fit v × (b v).Fit w;
      Is = λ w. (v : A) × a.Is v × (b v).Is w;
      pieces = λ w fit. a.pieces fit.0 fit.1 ++ (b fit.0).pieces w fit.2;
      after = m;
      opens = cond a.lacks (looser a.opens opens) a.opens;
      lacks = cond a.lacks false false;
      closed = closed;
      put = λ w fit others follows h. put_as (p then f fit.0) (p thenby f) (fit.0, w) w (joined (a.pieces fit.0 fit.1 ++ (b fit.0).pieces w fit.2)) others ((whole fit.0).put (fit.0, w) (fit.1, fit.2) others follows h) (λ ts s. (fit.0, s.0, s.1, s.2, s.3, s.4));
      begins = λ w fit. (whole fit.0).begins (fit.0, w) (fit.1, fit.2);
      made = λ w ts r came s. let m = (whole s.0).made (s.0, w) ts r came (s.1, s.2, s.3, s.4, s.5) in (s.0, m.0, m.1);
      closes = λ is w ts s. (whole s.0).closes is (s.0, w) ts (s.1, s.2, s.3, s.4, s.5);
    }

-- ---- memberships

pub truth_says : (b : Bool) (u : Unit {0}) → Says (λ t. told (truth_first (t ∷ []))) (truth_word b) b
unfolding is_bare_word truth_first is_word is_keyword_of
truth_says true u = (refl, λ t k w. rw (k, w) refl)
truth_says false u = (refl, λ t k w. rw (k, w) refl)

abbrev pub truth_as : Written truth
truth_as = word_said space (λ b. Unit {0}) (λ b. Unit {0}) (λ b u. truth_word b) truth_says (λ t b e. tt)

abbrev pub Anyhow : {A : Type 0} → A → Type 0
Anyhow v = Unit {0}

unfoldable pub with_options_as : Written with_options
unfolding with_options options others_behind inherit_and_set set_behind is_key
with_options_as =
    let set : Written set_behind = like_as (choose_as (lead_as comma_as (word_then (codes "SET") refl truth_as refl) refl) (heard_as Anyhow (λ b ts r came h. tt))) Anyhow (λ b u. inl tt) (λ b h. tt) in
    let inherit = seen_as (λ x. (Some x.0, x.1)) (then_as truth_as set refl) in
    let either : Written inherit_and_set = choose_as (word_then (codes "INHERIT") refl inherit refl) (word_then (codes "SET") refl (seen_as (λ b. (None, b)) truth_as) refl) in
    let inherited : (o : Option Bool) → (z : Bool) → either.Fit (o, z) = elim [ None ↦ λ z. inr (z, tt, refl) | Some b ↦ λ z. inl ((b, z), (tt, tt), refl) ] in
    let both = like_as either Anyhow (λ x u. inherited x.0 x.1) (λ x h. tt) in
    let others : Written others_behind = like_as (choose_as (lead_as comma_as both refl) (heard_as Anyhow (λ x ts r came h. tt))) Anyhow (λ x u. inl tt) (λ x h. tt) in
    let admin : Written options = like_as (choose_as (word_then (codes "ADMIN") refl (then_as truth_as others refl) refl) (heard_as Anyhow (λ x ts r came h. tt))) Anyhow (λ x u. inl (tt, tt)) (λ x h. tt) in
    like_as (choose_as (word_then (codes "WITH") refl admin refl) (heard_as Anyhow (λ x ts r came h. tt))) Anyhow (λ x u. inl tt) (λ x h. tt)

unfoldable pub granted_by_as : Written granted_by
unfolding granted_by is_key
granted_by_as =
    let name = word_then (codes "GRANTED") refl (word_then (codes "BY") refl (end_as (name_as space) refl) refl) refl in
    like_as (choose_as (seen_as Some name) (seen_as (λ u. None) (mark_as ending))) IsGrantor (given_or IsGrantor) (or_given IsGrantor tt)

unfoldable pub membership_as : (role : List ℕ) → Written (membership role)
unfolding membership member is_key with_options_as granted_by_as
membership_as role = word_then (codes "TO") refl (seen_as (member_of role) (then_as (name_as space) (then_as with_options_as granted_by_as refl) refl)) refl

-- ---- rights

-- what may be wanted: all rights, or those of a list that begins with one
abbrev pub wanting : Option Right → Wanted
wanting None = All
wanting (Some x) = These (only x)

abbrev pub opening_word : Option Right → List ℕ
opening_word None = codes "ALL"
opening_word (Some x) = written_word x

abbrev pub opening_name : Option Right → List ℕ
opening_name None = codes "all"
opening_name (Some x) = right_word x

-- what the words say with which rights begin
pub opening_says : (o : Option Right) → (is_bare_word (opening_word o) ≡ true) × ((t : Lexeme) → t.kind ≡ Word → t.word ≡ opening_word o → (wanted_first (t ∷ []) ≡ Some (wanting o)) × (right_first (t ∷ []) ≡ o) × (name_value t ≡ Ok (opening_name o)))
unfolding is_bare_word wanted_first right_first is_word is_keyword_of name_value name_in name_of is_utf8 chars encode
opening_says (Some Select) = (refl, λ t k w. rw (k, w) (refl, refl, refl))
opening_says x = (refl, λ t k w. rw (k, w) (refl, refl, refl))

-- all of a kind, or one at least
abbrev pub AreSome : Wanted → Type 0
AreSome All = Unit {0}
AreSome (These r) = has_rights r ≡ true

pub wanted_some : (ts : List Lexeme) (w : Wanted) → wanted_first ts ≡ Some w → AreSome w
wanted_some = wanted_is AreSome tt (λ x. has_some (only x) x (has_it x no_rights))

pub told_is : {A : Type 0} (o : Option A) (v : A) → told o ≡ Ok v → o ≡ Some v
told_is o v e = grind arith

unfoldable pub wanted_as : Written wanted
wanted_as =
    word_said space (λ w. (o : Option Right) × (wanting o ≡ w)) AreSome (λ w fit. opening_word fit.0) (λ w fit. let h = opening_says fit.0 in (h.0, λ t k word. ap told ((h.1 t k word).0 ∙ ap Some fit.1)))
    (λ t w e. wanted_some (t ∷ []) w (told_is (wanted_first (t ∷ [])) w e))

unfoldable pub more_as : (s : Rights) → Written (comma ▸ right_behind s)
more_as s =
    lead_as comma_as (word_said none (λ x. goes_with s x ≡ true) Anyhow (λ x goes. written_word x)
    (λ x goes. let h = opening_says (Some x) in (h.0, λ t k w. ap (λ o. told (joining s o)) (h.1 t k w).1 ∙ ap (λ (b : Bool). told (cond b (Some x) None)) goes)) (λ t x e. tt)) refl

pub still_some : (r : Rights) (xs : List Right) → has_rights r ≡ true → has_rights (all_of r xs) ≡ true
still_some r [] e = e
still_some r (x ∷ xs) e = still_some (with_right x r) xs (has_some (with_right x r) x (has_it x r))

unfoldable pub rights_from_as : (r : Rights) → Written (rights_from r)
unfolding rights_from more_as
rights_from_as r = seen_as (all_of r) (many_as more_as Anyhow (λ s x h. tt) Safe (λ s. refl))

-- ---- objects

abbrev pub kind_written : Kind → List ℕ
kind_written Tables = codes "TABLE"
kind_written Sequences = codes "SEQUENCE"
kind_written Schemas = codes "SCHEMA"
kind_written Types = codes "TYPE"

pub kind_is : (w : Wanted) (o : Option Kind) (k : Kind) → having w o ≡ Some k → kind_has w k ≡ true
kind_is w None k e = absurd cc
kind_is w (Some j) k e =
    let found : (b : Bool) → cond b (Some j) None ≡ Some k → (b ≡ true) × (j ≡ k) = λ b e. grind arith in
    let h = found (kind_has w j) e in
    subst (λ (x : Kind). kind_has w x ≡ true) h.1 h.0

unfoldable pub kind_with_as : (w : Wanted) → Written (kind_with w)
unfolding is_bare_word kind_first is_word is_keyword_of
kind_with_as w =
    word_said space (λ k. kind_has w k ≡ true) (λ k. kind_has w k ≡ true) (λ k has. kind_written k) (elim [ Tables ↦ λ has. (refl, λ t k word. rw (k, word, has) refl) | x ↦ λ has. (refl, λ t k word. rw (k, word, has) refl) ])
    (λ t k e. kind_is w (kind_first (t ∷ [])) k (told_is (having w (kind_first (t ∷ []))) k e))

unfoldable pub object_as : (k : Kind) → Written (object k)
object_as Tables = seen_as on.Table (path_as space)
object_as Sequences = seen_as on.Sequence (path_as space)
object_as Schemas = seen_as on.Schema (name_as space)
object_as Types = seen_as on.Type (path_as space)

pub object_is : (k : Kind) (o : Granted) → (object_as k).Is o → IsObject o × (kind_of o ≡ k)
unfolding object_as
object_is Tables o h = subst (λ (x : Granted). IsObject x × (kind_of x ≡ Tables)) h.2 (h.1, refl)
object_is Sequences o h = subst (λ (x : Granted). IsObject x × (kind_of x ≡ Sequences)) h.2 (h.1, refl)
object_is Schemas o h = subst (λ (x : Granted). IsObject x × (kind_of x ≡ Schemas)) h.2 (h.1, refl)
object_is Types o h = subst (λ (x : Granted). IsObject x × (kind_of x ≡ Types)) h.2 (h.1, refl)

abbrev pub object_on_as : (w : Wanted) → (k : Kind) → Written (object_on w k)
object_on_as w k = seen_as (λ o. (o, rights_on w k)) (object_as k)

abbrev pub AreOn : Granted × Rights → Type 0
AreOn x = IsObject x.0 × AreRights x.0 x.1

pub are_on : (w : Wanted) (k : Kind) (o : Granted) → AreSome w → kind_has w k ≡ true → IsObject o × (kind_of o ≡ k) → AreOn (o, rights_on w k)
are_on w k o some has is = grind (arith, kind_some, kind_whole)

unfoldable pub on_object_as : (w : Wanted) → Written (on_object w)
unfolding on_object kind_with_as object_as is_key
on_object_as w =
    let whole = thenby_as (kind_with_as w) (object_on_as w) Safe Words false (elim [ Tables ↦ refl | x ↦ refl ]) refl in
    is_as (word_then (codes "ON") refl whole refl) (λ x. AreSome w → AreOn x) (λ x h some. subst AreOn h.2.2 (are_on w h.0 h.2.0 some h.1 (object_is h.0 h.2.0 h.2.1)))

unfoldable pub rights_and_object_as : (w : Wanted) → Written (rights_and_object w)
unfolding rights_and_object rights_from_as on_object_as
rights_and_object_as w =
    let each : (w : Wanted) → Written (rights_and_object w) = elim [ All ↦ on_object_as All | These r ↦ thenby_as (rights_from_as r) (λ s. on_object_as (These s)) Safe Words false (λ s. refl) refl ] in
    let are : (w : Wanted) (x : Granted × Rights) → (each w).Is x → AreSome w → AreOn x = elim [ All ↦ λ x h. h | These r ↦ λ x h some. h.2 (ap has_rights (sym h.1.2) ∙ still_some r h.1.0 some) ] in
    within_as Safe Words false (is_as (each w) (λ x. AreSome w → AreOn x) (are w)) (elim w as (λ w. lies_within Safe Words false (each w) ≡ true) [ All ↦ refl | These r ↦ refl ])

-- ---- grantees

pub grantee_is : (n : List ℕ) → IsName n → IsGrantee (grantee_of n)
unfolding grantee_of
grantee_is n is = grind arith

-- a role by its name, and all roles by a word
unfoldable pub grantee_as : Written grantee
unfolding grantee_of is_bare_word name_value name_in name_of is_utf8 chars encode
grantee_as =
    let either : Written name = also_as (name_as space) (word_said space (λ n. n ≡ codes "public") IsName (λ n is. codes "PUBLIC") (λ n is. (refl, λ t k w. rw (k, w, is) refl)) value_name) in
    let fits : (who : Grantee) → IsGrantee who → (n : List ℕ) × either.Fit n × (grantee_of n ≡ who) = elim [ grantees.Public ↦ λ is. (codes "public", inr refl, refl) | grantees.Role n ↦ λ is. (n, inl is.0, ap (λ (b : Bool). cond b grantees.Public (grantees.Role n)) is.1) ] in
    pieces_as (like_as (seen_as grantee_of either) IsGrantee fits (λ who h. subst IsGrantee h.2 (grantee_is h.0 h.1))) (λ who is. (32 ∷ []) ∷ grantee_text who ∷ []) (elim [ grantees.Public ↦ λ is. refl | grantees.Role n ↦ λ is. refl ])

unfoldable pub option_as : Written grant_option
unfolding grant_option is_key
option_as =
    let words = word_then (codes "WITH") refl (word_then (codes "GRANT") refl (word_then (codes "OPTION") refl (mark_as ending) refl) refl) refl in
    let either : Written grant_option = choose_as (seen_as (λ x. true) words) (seen_as (λ x. false) (mark_as ending)) in
    let fits : (b : Bool) → either.Fit b = elim [ true ↦ inl (tt, tt, refl) | false ↦ inr (tt, tt, refl) ] in
    pieces_as (like_as either Anyhow (λ b u. fits b) (λ b h. tt)) (λ b u. only_if b (codes " WITH GRANT OPTION") ∷ (59 ∷ []) ∷ []) (elim [ true ↦ λ u. refl | false ↦ λ u. refl ])

unfoldable pub to_as : Written to_grantee
unfolding to_grantee grantee_as option_as is_key
to_as = word_then (codes "TO") refl (then_as grantee_as option_as refl) refl

unfoldable pub from_as : Written from_grantee
unfolding from_grantee grantee_as is_key
from_as = word_then (codes "FROM") refl (end_as grantee_as refl) refl

-- ---- REVOKE

unfoldable pub revoke_rights_as : (w : Wanted) → Written (revoke_rights w)
unfolding revoke_rights rights_and_object_as from_as
revoke_rights_as w = seen_as (λ x. stmt.Revoke x.0.0 x.0.1 x.1) (then_as (rights_and_object_as w) from_as refl)

-- what stands behind REVOKE, which the words tell with which rights begin
unfoldable pub revoking_as : Written revoked
unfolding revoked revoke_rights_as rights_and_object_as wanted_as from_as
revoking_as =
    is_as (thenby_as wanted_as revoke_rights_as Safe End true (λ w. refl) refl) IsRevoked (λ s h. let on = h.2.1.0 h.1 in subst IsRevoked h.2.2 (on.0, on.1, h.2.1.1))

-- ---- GRANT

abbrev pub IsFirst : First → Type 0
IsFirst x = IsName x.0 × OptionFit AreSome x.1

unfoldable pub behind_as : (n : List ℕ) → (o : Option Wanted) → Written (behind_first n o)
unfolding membership_as to_as grant_rights rights_and_object_as
behind_as n o =
    let grant = λ (w : Wanted). seen_as (λ x. stmt.Grant x.0.0 x.0.1 x.1.0 x.1.1) (then_as (rights_and_object_as w) to_as refl) in
    let each : (o : Option Wanted) → Written (behind_first n o) = elim [ None ↦ membership_as n | Some w ↦ choose_as (membership_as n) (grant w) ] in
    let are : (o : Option Wanted) (s : Stmt) → (each o).Is s → IsFirst (n, o) → IsGranted s = elim [
      | None ↦ λ s h is. subst IsGranted h.2 (is.0, h.1.0, h.1.1.1)
      | Some w ↦ λ s h is. elim h [ inl x ↦ subst IsGranted x.2 (is.0, x.1.0, x.1.1.1) | inr y ↦ (let on = y.1.0 is.1 in subst IsGranted y.2 (on.0, on.1, y.1.1.0)) ]
    ] in
    within_as Safe End true (is_as (each o) (λ s. IsFirst (n, o) → IsGranted s) (are o)) (elim o as (λ o. lies_within Safe End true (each o) ≡ true) [ None ↦ refl | Some w ↦ refl ])

-- behind what may be a right, TO tells that it is a role
pub role_laid : (n : List ℕ) (o : Option Wanted) (s : Stmt) (fit : (membership_as n).Fit s) → (whole : (behind_as n o).Fit s) × ((behind_as n o).pieces s whole ≡ (membership_as n).pieces s fit)
unfolding behind_as
role_laid n None s fit = (fit, refl)
role_laid n (Some w) s fit = (inl fit, refl)

-- the first name: that of a role, whatever it may stand for, or a word with which rights begin
abbrev pub role_wanted : List ℕ → Option Wanted
role_wanted n = wanted_first (name_token (32 ∷ []) n ∷ [])

pub role_means : (x : First) → IsName x.0 × (role_wanted x.0 ≡ x.1) → (t : Lexeme) → t.kind ≡ written_kind x.0 → t.word ≡ written_name x.0 → name_value t ≡ Ok x.0 → named_by (wanted_first (t ∷ [])) (name_value t) ≡ Ok x
unfolding wanted_first right_first is_word
role_means x fit t kind word e =
    let same_wanted : (t u : Lexeme) → t.kind ≡ u.kind → t.word ≡ u.word → wanted_first (t ∷ []) ≡ wanted_first (u ∷ []) = λ t u k w. cc in
    ap (λ o. named_by o (name_value t)) (same_wanted t (name_token (32 ∷ []) x.0) kind word ∙ fit.1) ∙ ap (named_by x.1) e

pub first_made : (t : Lexeme) (x : First) → named_by (wanted_first (t ∷ [])) (name_value t) ≡ Ok x → IsFirst x
first_made t x e =
    let follows : (o : Option Wanted) → wanted_first (t ∷ []) ≡ o → OptionFit AreSome o = elim [ None ↦ λ e. tt | Some w ↦ λ e. wanted_some (t ∷ []) w e ] in
    (value_name t x.0 (grind arith), follows x.1 (grind arith))

unfoldable pub first_as : Written first
first_as =
    let opening_means : (x : First) (fit : (o : Option Right) × ((opening_name o, Some (wanting o)) ≡ x)) (t : Lexeme) → t.kind ≡ Word → t.word ≡ opening_word fit.0 → named_by (wanted_first (t ∷ [])) (name_value t) ≡ Ok x =
    λ x fit t kind word. let h = (opening_says fit.0).1 t kind word in ap (λ o. named_by o (name_value t)) h.0 ∙ ap (named_by (Some (wanting fit.0))) h.2 ∙ ap (λ x. Ok x) fit.1 in
    also_as (name_said space (λ x. IsName x.0 × (role_wanted x.0 ≡ x.1)) IsFirst (λ x. x.0) (λ x fit. fit.0) role_means first_made)
    (word_said space (λ x. (o : Option Right) × ((opening_name o, Some (wanting o)) ≡ x)) IsFirst (λ x fit. opening_word fit.0) (λ x fit. ((opening_says fit.0).0, opening_means x fit)) first_made)

unfoldable pub granting_as : Written granted
unfolding granted behind_as first_as
granting_as = is_as (thenby_as first_as (λ x. behind_as x.0 x.1) Safe End true (λ x. refl) refl) IsGranted (λ s h. h.2 h.1)

-- ---- the text of rights on an object

pub on_laid : (w : Wanted) (o : Granted) (r : Rights) → kind_has w (kind_of o) ≡ true → rights_on w (kind_of o) ≡ r → IsObject o → (fit : (on_object_as w).Fit (o, r)) × (joined ((on_object_as w).pieces (o, r) fit) ≡ (granted_words o ++ granted_name o) ++ [])
unfolding on_object_as
on_laid w (on.Table q) r has e is = ((Tables, has, (on.Table q, (q, is, refl), ap (λ (x : Rights). (on.Table q, x)) e)), refl)
on_laid w (on.Sequence q) r has e is = ((Sequences, has, (on.Sequence q, (q, is, refl), ap (λ (x : Rights). (on.Sequence q, x)) e)), refl)
on_laid w (on.Schema n) r has e is = ((Schemas, has, (on.Schema n, (n, is, refl), ap (λ (x : Rights). (on.Schema n, x)) e)), refl)
on_laid w (on.Type q) r has e is = ((Types, has, (on.Type q, (q, is, refl), ap (λ (x : Rights). (on.Type q, x)) e)), refl)

-- rights behind others, each behind a comma
unfoldable pub list_laid : (start s : Rights) → (xs : List Right) → AllGo s xs → (fit : AllFit (more_rights start) more_as s xs) × (joined (items_pieces (more_rights start) more_as s xs fit) ≡ flat_map (λ word. codes "," ++ word) (map written_word xs))
unfolding more_as
list_laid start s [] go = (tt, refl)
list_laid start s (x ∷ xs) go = let more = list_laid start (with_right x s) xs go.1 in ((go.0, more.0), ap (λ (t : List ℕ). (44 ∷ written_word x) ++ t) more.1)

-- how the rights on an object are written, from their first word on
pub record IsOpened (o : Granted) (r : Rights) (text : List ℕ) : Type 0 where
  pub opening : Option Right
  pub fit : (rights_and_object_as (wanting opening)).Fit (o, r)
  pub same : opening_word opening ++ joined ((rights_and_object_as (wanting opening)).pieces (o, r) fit) ≡ text ++ ((granted_words o ++ granted_name o) ++ [])

pub all_opened : (o : Granted) (r : Rights) → IsObject o → is_all o r ≡ true → IsOpened o r (codes "ALL")
unfolding rights_and_object_as
all_opened o r is all = let on = on_laid All o r refl (sym (all_is o r all)) is in record { opening = None; fit = on.0; same = ap (λ (x : List ℕ). codes "ALL" ++ x) on.1 }

pub list_opened : (o : Granted) (r : Rights) → IsObject o → AreRights o r → IsOpened o r (right_list r)
unfolding rights_and_object_as right_list with_commas
list_opened o r is are =
    let l = some_listed r are.0 in
    let x = l.first in
    let xs = l.more in
    let whole : all_of (only x) xs ≡ r = ap (all_of no_rights) (sym l.same) ∙ listed_is r in
    let laid = list_laid (only x) (only x) xs (all_go (kind_of o) (only x) xs (ap (λ (y : Rights). within y (kind_rights (kind_of o))) whole ∙ are.1)) in
    let items = items_pieces (more_rights (only x)) more_as (only x) xs laid.0 in
    let on = on_laid (These r) o r are.1 refl is in
    let behind = (on_object_as (These r)).pieces (o, r) on.0 in
    let object = (granted_words o ++ granted_name o) ++ [] in
    record {
      opening = Some x;
      fit = (r, (xs, laid.0, whole), on.0);
      same = ap (λ (t : List ℕ). written_word x ++ t) (joined-append items behind ∙ ap (λ (t : List ℕ). t ++ joined behind) laid.1 ∙ ap (λ (t : List ℕ). flat_map (λ word. codes "," ++ word) (map written_word xs) ++ t) on.1)
          ∙ sym (append_assoc (written_word x) (flat_map (λ word. codes "," ++ word) (map written_word xs)) object) ∙ ap (λ (t : List ℕ). t ++ object) (sym (ap with_commas (words_are r ∙ ap (map written_word) l.same)));
    }

pub rights_opened : (o : Granted) (r : Rights) → IsObject o → AreRights o r → IsOpened o r (rights_text o r)
unfolding rights_text
rights_opened o r is are = grind (arith, all_opened, list_opened)

-- before what stands behind them
pub rights_spelled : (o : Granted) (r : Rights) (h : IsOpened o r (rights_text o r)) (t : List (List ℕ)) → opening_word h.opening ++ joined ((rights_and_object_as (wanting h.opening)).pieces (o, r) h.fit ++ t) ≡ rights_text o r ++ ((granted_words o ++ granted_name o) ++ joined t)
rights_spelled o r h t = simp (joined-append, append_assoc) (simp (append_assoc, append-nil) at (ap (λ (x : List ℕ). x ++ joined t) h.same))

-- ---- what stands behind GRANT and behind REVOKE, with its one text

pub member_laid : (role m : List ℕ) (c : Option (List ℕ)) (admin : Bool) (inherit : Option Bool) (z : Bool) → IsGranted (stmt.GrantRole role m c admin inherit z)
    → (fit : (membership_as role).Fit (stmt.GrantRole role m c admin inherit z)) × ((32 ∷ []) ++ (written_name role ++ joined ((membership_as role).pieces (stmt.GrantRole role m c admin inherit z) fit)) ≡ member_text role m c admin inherit z)
unfolding membership_as member_text
member_laid role m None admin None z is = (((m, ((admin, (None, z)), None)), (is.1, (tt, is.2)), refl), refl)
member_laid role m None admin (Some b) z is = (((m, ((admin, (Some b, z)), None)), (is.1, (tt, is.2)), refl), refl)
member_laid role m (Some c) admin None z is = (((m, ((admin, (None, z)), Some c)), (is.1, (tt, is.2)), refl), refl)
member_laid role m (Some c) admin (Some b) z is = (((m, ((admin, (Some b, z)), Some c)), (is.1, (tt, is.2)), refl), refl)

pub granted_laid : (s : Stmt) → IsGranted s → (fit : granting_as.Fit s) × (joined (granting_as.pieces s fit) ≡ grant_words s ++ [])
unfolding granting_as grant_text
granted_laid (stmt.Grant o r who option) is =
    let h = rights_opened o r is.0 is.1 in
    let same = rights_spelled o r h (to_as.pieces (who, option) (is.2, tt)) in
    (((opening_name h.opening, Some (wanting h.opening)), inr (h.opening, refl), inr (((o, r), (who, option)), (h.fit, (is.2, tt)), refl)), ap (λ (x : List ℕ). 32 ∷ x) same ∙ sym (append-nil (grant_text o r who option)))
granted_laid (stmt.GrantRole role m c admin inherit z) is =
    let member = member_laid role m c admin inherit z is in
    let whole = role_laid role (role_wanted role) (stmt.GrantRole role m c admin inherit z) member.0 in
    (((role, role_wanted role), inl (is.0, refl), whole.0), ap (λ (x : List (List ℕ)). 32 ∷ written_name role ++ joined x) whole.1 ∙ member.1 ∙ sym (append-nil (member_text role m c admin inherit z)))
granted_laid s is = absurd is

unfoldable pub granted_as : Written granted
unfolding granting_as
granted_as = pieces_as (fit_as granting_as IsGranted (λ s is. (granted_laid s is).0)) (λ s is. grant_words s ∷ []) (λ s is. (granted_laid s is).1)

pub revoked_laid : (s : Stmt) → IsRevoked s → (fit : revoking_as.Fit s) × (joined (revoking_as.pieces s fit) ≡ revoke_words s ++ [])
unfolding revoking_as revoke_text
revoked_laid (stmt.Revoke o r who) is =
    let h = rights_opened o r is.0 is.1 in
    ((wanting h.opening, (h.opening, refl), (((o, r), who), (h.fit, is.2), refl)), ap (λ (x : List ℕ). 32 ∷ x) (rights_spelled o r h (from_as.pieces who is.2)) ∙ sym (append-nil (revoke_text o r who)))
revoked_laid s is = absurd is

unfoldable pub revoked_as : Written revoked
unfolding revoking_as
revoked_as = pieces_as (fit_as revoking_as IsRevoked (λ s is. (revoked_laid s is).0)) (λ s is. revoke_words s ∷ []) (λ s is. (revoked_laid s is).1)
