-- Columns and what follows them, checks, a setting's equals sign, truth values, the bodies of views, what follows an index's
-- method, and the path of a table: each with the text that it is written in.
use Rattle.ddl_relation_texts.proofs.Common.{◌≡◌, arith, AllFit, items_pieces, ℕ, Bool, false, List, [], ◌∷◌, ◌++◌, append_assoc, append-nil, refl, ap, ◌∙◌, inl, inr, codes, true, cond, sym, subst, Ok, Err, flat_map, AllByRecursion, is_utf8, chars, encode, is_keyword_of, name_of, written_name, IsName, Lexeme, source, is_sign, is_word, spelled, starts, name, name_value, name_in, seen, ◌then◌, ◌▸◌, ◌◂◌, rest_text, joined, path, further, names_of, columns, deferral, action, on_delete, reactions, key_rest, foreign_rest, Words, Safe, admits, joined-append, Follows, IsPut, Yields, words, run_read, Gap, none, space, newline, spaced, no_key, value_name, Written, Says, opening_as, closing_as, comma_as, name_as, then_as, lead_as, close_as, shown_as, pieces_as, choose_as, nothing_as, alike_as, leaf_as, is_key, word_as, mark_as, word_then, seen_as, heard_as, run_put, is_bare_word, word_said, name_said, path_same, IsRest, AreColumns, IsCheck, expression, lexemes, collected, check_text, space_before, named_check, check_of, some_columns, equals_or_to, bracketed, truth, IsExpressionText, IsBracketText, IsPath, nested_plain, expression_as, is_reserved, written_kind, only_value, only_name, other_value, other_path, Part, Items, dot_as, plain_as, signs, like_as, some_listed, nested}
use Rattle.ddl_forms.specs.{Texts.IsTextOf, Paths.listed, Views.stands_alone}
use Rattle.ddl_forms.proofs.{Behind.End, Behind.Opens, Behind.opened, Behind.one_opens, PlainParts.IsPlainPart, PlainParts.plain_spells, PlainParts.plain_parts, RunTexts.plain_runs, RunTexts.read_again, Putting.none_put, Putting.same_text, Written.not_closed}
use Rattle.ddl_grammar.specs.{Columns.more_names, Rests.kept, OnlyGrammar.path_of}
use Rattle.ddl_grammar.proofs.Meanings.{only_is, other_is}
use Rattle.ddl_spelling.specs.Sequences.{truth_word}

-- ---- columns

abbrev pub further_as : Written further
further_as = alike_as (λ s. lead_as comma_as (name_as space) refl) IsName (λ s n is. is) (λ s n is. is) Words (λ s. refl)

abbrev pub in_brackets_as : {g : List ℕ} → Gap g → Written (is_sign 40 ▸ (seen names_of (name then further) ◂ is_sign 41))
in_brackets_as gap = lead_as (opening_as gap) (close_as (shown_as names_of (then_as (name_as none) further_as refl) AreColumns (elim [ [] ↦ λ is. absurd is | n ∷ ns ↦ λ is. ((n, ns), is, refl) ]) (λ x is. is)) (closing_as none) refl) refl

-- the text of items that have a line each
pub lines_of_items : {A : Type 0} (items : Items A) (each : (s : items.State) → Written (items.item s)) (line : A → List ℕ) → ((s : items.State) (v : A) (fit : (each s).Fit v) (more : List (List ℕ)) → joined ((each s).pieces v fit ++ more) ≡ line v ++ joined more) → (s : items.State) (vs : List A) (fit : AllFit items each s vs)
    → joined (items_pieces items each s vs fit) ≡ flat_map line vs
lines_of_items items each line one s [] fit = refl
lines_of_items items each line one s (v ∷ vs) fit = one s v fit.0 _ ∙ ap (λ (x : List ℕ). line v ++ x) (lines_of_items items each line one (items.next s v) vs fit.1)

pub listed_is : {g : List ℕ} (gap : Gap g) (ns : List (List ℕ)) (is : AreColumns ns) → joined ((in_brackets_as gap).pieces ns is) ≡ g ++ (listed ns ++ [])
unfolding listed
listed_is {g} gap [] is = absurd is
listed_is {g} gap (n ∷ ns) is =
    let columns_regrouped : (g o n w c : List ℕ) → (g ++ o) ++ (n ++ (w ++ c)) ≡ g ++ ((((o ++ n) ++ w) ++ c) ++ []) = λ g o n w c. simp (append_assoc, append-nil) in
    let more : joined (further_as.pieces ns is.1) ≡ flat_map (λ n. codes ", " ++ written_name n) ns = lines_of_items more_names (λ s. lead_as comma_as (name_as space) refl) (λ n. codes ", " ++ written_name n) (λ s n fit more. refl) tt ns _ in
    ap (λ (x : List ℕ). (g ++ 40 ∷ []) ++ (written_name n ++ x)) (joined-append (further_as.pieces ns is.1) ((41 ∷ []) ∷ []) ∙ ap (λ (x : List ℕ). x ++ 41 ∷ []) more) ∙ columns_regrouped g (40 ∷ []) (written_name n) (flat_map (λ n. codes ", " ++ written_name n) ns) (41 ∷ [])

unfoldable pub columns_as : {g : List ℕ} → Gap g → Written columns
unfolding columns
columns_as {g} gap = pieces_as (in_brackets_as gap) (λ ns is. g ∷ listed ns ∷ []) (listed_is gap)

-- the same behind a space, or none
unfoldable pub some_columns_as : Written some_columns
unfolding some_columns columns_as
some_columns_as =
    let either : Written some_columns = choose_as (columns_as space) (nothing_as []) in
    let fits : (ns : List (List ℕ)) → AllByRecursion IsName ns → either.Fit ns = elim [ [] ↦ λ all. inr refl | n ∷ ns ↦ λ all. inl all ] in
    pieces_as (like_as either (AllByRecursion IsName) fits (λ ns h. elim h [ inl is ↦ elim ns as (λ ns. AreColumns ns → AllByRecursion IsName ns) [ [] ↦ λ is. tt | n ∷ ns ↦ λ is. is ] is | inr e ↦ subst (AllByRecursion IsName) (sym e) tt ])) (λ ns all. some_listed ns ∷ []) (elim [ [] ↦ λ all. refl | n ∷ ns ↦ λ all. refl ])

-- ---- what follows them

pub rest_put : {p : Part (Unit {0})} → IsPlainPart p → p.Spells tt [] → (v : List ℕ) → IsRest p v → (others : List Lexeme) → Follows others → admits Safe (spelled others) ≡ true → IsPut (kept p) v (joined (rest_text v ∷ [])) others
rest_put {p} plain empty [] is others follows e = none_put (kept p) [] others (tt, refl, empty) follows
rest_put {p} plain empty (b ∷ v) is others follows e =
    same_text (32 ∷ b ∷ v) (joined (rest_text (b ∷ v) ∷ [])) (sym (append-nil (32 ∷ b ∷ v)))
    (run_put {g = 32 ∷ []} (plain_spells plain tt) (kept p) (b ∷ v) (b ∷ v) others space is (λ ts runs whole same. (tt, sym whole, runs)) follows e)

pub rest_made : {p : Part (Unit {0})} → IsPlainPart p → Yields (IsRest p) (kept p)
rest_made {p} plain v [] r came s = subst (IsRest p) (sym s.1) tt
rest_made {p} plain v (t ∷ ts) r came s = subst (IsRest p) (sym s.1) (is_rest (source (t ∷ ts)) (read_again (p.Spells tt) (plain_spells plain tt) t ts r came s.2).text)
  where
    is_rest : (v : List ℕ) → IsTextOf (p.Spells tt) v → IsRest p v
    is_rest v is = grind arith

pub rest_begins : (v : List ℕ) → Opens true Safe (joined (rest_text v ∷ []))
rest_begins [] m c rest e = e
rest_begins (b ∷ v) m c rest e = one_opens false true Safe End (32 ∷ b ∷ v ++ []) (opened (32 ∷ []) (b ∷ v ++ [])) m c rest e

-- the text that a part takes behind a space, or nothing
abbrev pub rest_as : {p : Part (Unit {0})} → IsPlainPart p → p.Spells tt [] → Written (kept p)
rest_as {p} plain empty = record {
  Fit = IsRest p;
  Is = IsRest p;
  pieces = λ v is. rest_text v ∷ [];
  after = Safe;
  opens = Safe;
  lacks = true;
  closed = false;
  put = rest_put plain empty;
  begins = λ v is. rest_begins v;
  made = rest_made plain;
  closes = not_closed (kept p);
}

pub deferral_plain : IsPlainPart deferral
unfolding deferral
deferral_plain = search plain_parts depth 30

action_plain : (goes : Bool) → IsPlainPart (action goes)
unfolding action columns
action_plain true = search plain_parts depth 40
action_plain false = search plain_parts depth 40

pub reactions_plain : IsPlainPart reactions
unfolding reactions on_delete deferral
reactions_plain = search (plain_parts, action_plain) depth 40

unfoldable pub key_rest_as : Written key_rest
unfolding key_rest deferral
key_rest_as = rest_as deferral_plain (inr (refl, refl))

unfoldable pub foreign_rest_as : Written foreign_rest
unfolding foreign_rest reactions deferral
foreign_rest_as = rest_as reactions_plain (inr (inr (refl, refl)))

-- ---- checks

unfoldable pub named_check_as : {g : List ℕ} → Gap g → Written named_check
unfolding named_check is_key expression_as check_text
named_check_as {g} gap =
    let check_regrouped : (g c n k v z : List ℕ) → g ++ (c ++ (n ++ (k ++ (v ++ z)))) ≡ g ++ (((((c ++ n) ++ k) ++ v) ++ z) ++ []) = λ g c n k v z. simp (append_assoc, append-nil) in
    let bracket = lead_as (opening_as space) (close_as (expression_as none) (closing_as none) refl) refl in
    pieces_as (shown_as check_of (lead_as (word_as gap (codes "CONSTRAINT") refl) (then_as (name_as space) (word_then (codes "CHECK") refl bracket refl) refl) refl) IsCheck (λ c is. ((c.name, c.text), is, refl)) (λ x is. is))
    (λ c is. g ∷ check_text c.name c.text ∷ []) (λ c is. check_regrouped g (codes "CONSTRAINT ") (written_name c.name) (codes " CHECK (") c.text (codes ")"))

-- ---- settings and calls

-- = is written, and TO is read as well
unfoldable pub equals_sign_as : {g : List ℕ} → Gap g → Written equals_or_to
unfolding equals_or_to
equals_sign_as {g} gap =
    let either : Written equals_or_to = choose_as (mark_as (plain_as gap 61 signs.5 refl)) (heard_as (λ u. Unit {0}) (λ u ts r came h. tt)) in
    pieces_as (like_as either (λ u. Unit {0}) (λ u is. inl tt) (λ u h. tt)) (λ u is. g ∷ codes "=" ∷ []) (λ u is. append-nil (g ++ 61 ∷ []))

unfoldable pub truth_as : {g : List ℕ} → Gap g → Written truth
unfolding truth is_key
truth_as {g} gap =
    let either : Written truth = choose_as (seen_as (λ u. true) (mark_as (word_as gap (codes "true") refl))) (seen_as (λ u. false) (mark_as (word_as gap (codes "false") refl))) in
    let fits : (b : Bool) → either.Fit b = elim [ true ↦ inl (tt, tt, refl) | false ↦ inr (tt, tt, refl) ] in
    pieces_as (like_as either (λ b. Unit {0}) (λ b u. fits b) (λ b h. tt)) (λ b u. g ∷ truth_word b ∷ []) (elim [ true ↦ λ u. refl | false ↦ λ u. refl ])

-- ---- views

-- a line feed, and the space that may stand behind it
pub body_put : (v : List ℕ) (others : List Lexeme) → IsExpressionText v → Follows others → admits Safe (spelled others) ≡ true → IsPut expression v ((10 ∷ []) ++ (space_before v ++ v)) others
unfolding expression space_before
body_put v others is follows e =
    let gap : (b : Bool) → Gap ((10 ∷ []) ++ cond b [] (codes " ")) = elim [ true ↦ newline | false ↦ spaced ] in
    run_put (plain_runs (nested_plain false false)) expression v v others (gap (stands_alone v)) is (λ ts runs whole same. (ts, sym whole, (refl, runs))) follows e

unfoldable pub body_as : Written expression
unfolding expression_as
body_as = leaf_as IsExpressionText IsExpressionText (10 ∷ []) (λ v is. space_before v ++ v) Safe (λ v is others. body_put v others is) (expression_as none).made

-- ---- indexes

-- tokens that say the same begin with the same sign
pub same_start : (b : ℕ) (a c : List Lexeme) → words a ≡ words c → starts (is_sign b) c ≡ true → starts (is_sign b) a ≡ true
unfolding is_sign
same_start b a c e is = grind arith

pub bracket_put : {g : List ℕ} → Gap g → (v : List ℕ) (others : List Lexeme) → IsBracketText v → Follows others → admits Safe (spelled others) ≡ true → IsPut bracketed v (g ++ v) others
unfolding bracketed expression
bracket_put gap v others is follows e =
    run_put (plain_runs (nested_plain false false)) bracketed v v others gap is.0 (λ ts runs whole same. (same_start 40 ts (lexemes v (collected v 0).pieces) same is.1, (ts, sym whole, (refl, runs)))) follows e

pub bracket_made : Yields IsBracketText bracketed
unfolding bracketed expression
bracket_made v ts r came spells =
    let e = spells.1 in
    let h = run_read (nested false false) (nested_plain false false) ts r came e.2.1 in
    subst IsBracketText (ap source (sym e.2.0) ∙ sym e.1) (h.text, same_start 40 (lexemes (source ts) (collected (source ts) 0).pieces) ts h.says spells.0)

unfoldable pub brackets_as : {g : List ℕ} → Gap g → Written bracketed
brackets_as {g} gap = leaf_as IsBracketText IsBracketText g (λ v is. v) Safe (λ v is others. bracket_put gap v others is) bracket_made

-- ---- the bare word ONLY, and a path that doesn't begin with it

pub only_says : (n : List ℕ) → n ≡ codes "only" → Says only_value (codes "ONLY") n
unfolding is_bare_word only_value is_word name_value is_keyword_of name_in name_of is_utf8 chars encode
only_says n is = (refl, λ t kind word. rw (kind, word, is) refl)

-- the bare word ONLY
abbrev pub only_name_as : Written only_name
only_name_as = word_said space (λ n. n ≡ codes "only") IsName (λ n is. codes "ONLY") only_says (λ t n e. value_name t n (only_is t n e).1)

unfoldable pub other_path_as : Written other_path
unfolding other_path other_value is_reserved
other_path_as =
    let means : (n : List ℕ) → IsName n → (t : Lexeme) → t.kind ≡ written_kind n → t.word ≡ written_name n → name_value t ≡ Ok n → other_value t ≡ Ok n =
    λ n is t kind word e. ap (λ (b : Bool). cond b (Err false) (name_value t)) (no_key (codes "only") n is.utf8 refl t kind word) ∙ e in
    let other = name_said space IsName IsName (λ n. n) (λ n is. is) means (λ t n e. value_name t n (other_is t n e).1) in
    pieces_as (shown_as path_of (then_as other (lead_as dot_as (name_as none) refl) refl) IsPath (λ q is. ((q.schema, q.name), is, refl)) (λ x is. is)) (λ q is. (32 ∷ []) ∷ path q ∷ []) (λ q is. path_same (32 ∷ []) q)
