-- What stands before a token; and a part with the texts of its values, of which it is computed how they begin and end.
use Rattle.ddl_forms.proofs.Common.{◌≡◌, ℕ, Bool, true, false, cond, ◌&&◌, ◌||◌, ◌⊎◌, List, [], ◌∷◌, ◌++◌, append-nil, Option, Some, None, codes, QName, IsPath, path, refl, sym, ap, subst, ◌∙◌, inl, inr, arith, ◌==◌, nat_tests, str_to_ascii_lowercase, joined, Lexeme, spelled, is_word, is_sign, Part, mark, seen, choose, ◌then◌, ◌▸◌, ◌◂◌, semicolon}
use Rattle.ddl_forms.proofs.{Behind.Behind, Behind.Anything, Behind.Words, Behind.Safe, Behind.End, Behind.admits, Behind.covers, Behind.looser, Behind.tighter, Behind.opens_of, Behind.Opens, Behind.opened, Closing.Closes, Tokens.Gap, Tokens.none as no_gap, Tokens.space as one_space, Tokens.newline, Tokens.indented, Tokens.is_single, Written.Written, Written.is_key, Written.word_as, Written.sign_put, Written.name_as, Written.path_as, Written.dot_as, Written.none_behind, Written.mark_closes, Written.then_as, Written.lead_as, Written.close_as, Written.seen_as, Written.like_as, Written.pieces_as, Written.choose_as, Written.either_pieces, Putting.Follows, Putting.IsPut, Putting.same_text, Putting.Yields}
use Rattle.ddl_grammar.specs.Syntax.{Space, none, blank, feed, indent, given, between, FitsBack, OneOf, back_pieces}
use Rattle.ddl_grammar.specs.OnlyGrammar.{only_name, in_schema, key_word, behind_only, only_path, table_and}
use Rattle.ddl_relation_texts.proofs.Relations.{only_name_as, other_path_as}

-- ---- what stands before a token

pub gap_of : {g : List ℕ} → Gap g → (space : Space) → Gap (between g space)
gap_of gap none = no_gap
gap_of gap blank = one_space
gap_of gap indent = indented
gap_of gap feed = newline
gap_of gap given = gap

-- what a token that is written so behind such a space begins with
unfoldable pub begins_with : Space → List ℕ → Behind
begins_with none w = opens_of w
begins_with given w = Anything
begins_with _ w = Safe

-- any text begins with what follows anything
any_opens : (text : List ℕ) → Opens false Anything text
any_opens text m c rest e = grind arith

pub begins_so : (g : List ℕ) (space : Space) (w more : List ℕ) → Opens false (begins_with space w) (between g space ++ (w ++ more))
unfolding begins_with
begins_so g none w more = opened w more
begins_so g given w more = any_opens (g ++ (w ++ more))
begins_so g space w more = opened (between g space) (w ++ more)

-- ---- what is computed of a part

-- what may stand behind a text, what it begins with, whether it may be empty, and whether a semicolon ends it
pub record Shape : Type 0 where
  pub after : Behind
  pub opens : Behind
  pub lacks : Bool
  pub closed : Bool

abbrev pub shape_of : {A : Type 0} → {p : Part A} → Written p → Shape
shape_of w = record { after = w.after; opens = w.opens; lacks = w.lacks; closed = w.closed }

abbrev pub word_shape : Space → List ℕ → Shape
word_shape space w = record { after = Words; opens = begins_with space w; lacks = false; closed = false }

abbrev pub sign_shape : Space → ℕ → Shape
sign_shape space b = record { after = cond (59 == b) End Anything; opens = begins_with space (b ∷ []); lacks = false; closed = 59 == b }

abbrev pub then_shape : Shape → Shape → Shape
then_shape a b = record { after = b.after; opens = cond a.lacks (looser a.opens b.opens) a.opens; lacks = cond a.lacks b.lacks false; closed = b.closed }

abbrev pub or_shape : Shape → Shape → Shape
or_shape a b = record { after = tighter a.after b.after; opens = looser a.opens b.opens; lacks = a.lacks || b.lacks; closed = a.closed && b.closed }

-- what admits this may stand before each text
abbrev pub may_meet : Behind → Shape → Bool
may_meet m s = covers m s.opens && covers (cond s.lacks m Anything) s.after

-- ---- its laws

-- what can be written lies in tokens that spell it, and what tokens of a text spell can be written
pub record Said {A : Type 0} (p : Part A) (Fit : A → Type 0) (pieces : A → List (List ℕ)) (s : Shape) : Type 0 where
  pub put : (v : A) → Fit v → (others : List Lexeme) → Follows others → admits s.after (spelled others) ≡ true → IsPut p v (joined (pieces v)) others
  pub begins : (v : A) → Fit v → Opens s.lacks s.opens (joined (pieces v))
  pub made : Yields Fit p
  pub closes : s.closed ≡ true → Closes semicolon p

abbrev pub written : {A : Type 0} → {p : Part A} → {Fit : A → Type 0} → {pieces : A → List (List ℕ)} → {s : Shape} → Said p Fit pieces s → Written p
written {Fit = Fit} {pieces = pieces} {s = s} k = record {
  Fit = Fit;
  Is = Fit;
  pieces = λ v fit. pieces v;
  after = s.after;
  opens = s.opens;
  lacks = s.lacks;
  closed = s.closed;
  put = k.put;
  begins = k.begins;
  made = k.made;
  closes = k.closes;
}

-- values that can be written as those of another part
abbrev pub said_as : {A : Type 0} → {p : Part A} → {Fit : A → Type 0} → {pieces : A → List (List ℕ)} → (w : Written p) → ((v : A) → Fit v → (fit : w.Fit v) × (joined (w.pieces v fit) ≡ joined (pieces v))) → ((v : A) → w.Is v → Fit v) → Said p Fit pieces (shape_of w)
said_as {Fit = Fit} {pieces = pieces} w to from =
    let x = pieces_as (like_as w Fit (λ v fit. (to v fit).0) from) (λ v fit. pieces v) (λ v fit. (to v fit).1) in
    record { put = x.put; begins = x.begins; made = x.made; closes = x.closes }

-- ---- key words and signs

abbrev pub IsMark : (Lexeme → Bool) → List (List ℕ) → Shape → Type 0
IsMark test text s = Said (mark test) (λ u. Unit {0}) (λ u. text) s

pub word_mark : {g : List ℕ} → Gap g → (space : Space) (w : List ℕ) → is_key (str_to_ascii_lowercase w) w ≡ true → IsMark (is_word (str_to_ascii_lowercase w)) (between g space ∷ w ∷ []) (word_shape space w)
word_mark {g} gap space w key = let m = (word_as (gap_of gap space) w key).written in record { put = m.put; begins = λ u fit. begins_so g space w []; made = m.made; closes = m.closes }

-- where only the end may stand behind a semicolon, no token does
ends_so : (b : Bool) (others : List Lexeme) → Follows others → admits (cond b End Anything) (spelled others) ≡ true → (b ≡ false) ⊎ (others ≡ [])
ends_so true others follows e = inr (none_behind others follows.stood e)
ends_so false others follows e = inl refl

pub sign_mark : {g : List ℕ} → Gap g → (space : Space) (b : ℕ) → is_single b ≡ true → IsMark (is_sign b) (between g space ∷ (b ∷ []) ∷ []) (sign_shape space b)
sign_mark {g} gap space b single = record {
  put = λ u fit others follows e. same_text ((between g space ++ b ∷ []) ++ []) (between g space ++ b ∷ []) (append-nil (between g space ++ b ∷ [])) (sign_put (gap_of gap space) b single others (ends_so (59 == b) others follows e) follows);
  begins = λ u fit. begins_so g space (b ∷ []) [];
  made = λ u ts r came s. tt;
  closes = λ e. subst (λ n. Closes semicolon (mark (is_sign n))) (let same : 59 ≡ b = grind (arith, nat_tests) in same) (mark_closes semicolon);
}

-- ---- one after another, values seen through others, and one of two

pub both_said : {A B : Type 0} {p : Part A} {q : Part B} {P : A → Type 0} {Q : B → Type 0} {a : A → List (List ℕ)} {b : B → List (List ℕ)} {s t : Shape} → Said p P a s → Said q Q b t → may_meet s.after t ≡ true → Said (p then q) (λ v. P v.0 × Q v.1) (λ v. a v.0 ++ b v.1) (then_shape s t)
both_said k j e = said_as (then_as (written k) (written j) e) (λ v fit. (fit, refl)) (λ v is. is)

pub led_said : {A : Type 0} {text : List (List ℕ)} {p : Part A} {P : A → Type 0} {a : A → List (List ℕ)} {m s : Shape} (test : Lexeme → Bool) → IsMark test text m → Said p P a s → may_meet m.after s ≡ true → Said (test ▸ p) P (λ v. text ++ a v) (then_shape m s)
led_said test k j e = said_as (lead_as (record { written = written k; fit = tt }) (written j) e) (λ v fit. (fit, refl)) (λ v is. is)

pub ended_said : {A : Type 0} {text : List (List ℕ)} {p : Part A} {P : A → Type 0} {a : A → List (List ℕ)} {m s : Shape} (test : Lexeme → Bool) → Said p P a s → IsMark test text m → may_meet s.after m ≡ true → Said (p ◂ test) P (λ v. a v ++ text) (then_shape s m)
ended_said test k j e = said_as (close_as (written k) (record { written = written j; fit = tt }) e) (λ v fit. (fit, refl)) (λ v is. is)

pub seen_said : {A B : Type 0} {p : Part A} {P : A → Type 0} {a : A → List (List ℕ)} {s : Shape} (f : A → B) (back : B → Option A) → ((v : A) → back (f v) ≡ Some v) → Said p P a s → Said (seen f p) (λ v. FitsBack f P v (back v)) (λ v. back_pieces a (back v)) s
seen_said {A} {P = P} {a = a} f back is k =
    said_as (seen_as f (written k)) (λ v. elim (back v) as (λ o. FitsBack f P v o → (fit : (y : A) × P y × (f y ≡ v)) × (joined (a fit.0) ≡ joined (back_pieces a o))) [ None ↦ λ h. absurd h | Some x ↦ λ h. ((x, h.0, h.1), refl) ])
    (λ v h. subst (FitsBack f P v) (sym (ap back (sym h.2) ∙ is h.0)) (h.1, h.2))

-- as the first, where that has the value
pub either_said : {A : Type 0} {test : Lexeme → Bool} {p q : Part A} {P Q : A → Type 0} {a b : A → List (List ℕ)} {s t : Shape} (has : A → Bool) → ((v : A) → P v → has v ≡ true) → ((v : A) → Q v → has v ≡ false) → Said p P a s → Said q Q b t
    → Said (choose test p q) (λ v. OneOf (has v) (P v) (Q v)) (λ v. cond (has v) (a v) (b v)) (or_shape s t)
either_said {P = P} {Q = Q} {a = a} {b = b} has first second k j =
    said_as (choose_as (written k) (written j))
    (λ v. elim (has v) as (λ x. OneOf x (P v) (Q v) → (fit : P v ⊎ Q v) × (joined (either_pieces (written k) (written j) v fit) ≡ joined (cond x (a v) (b v)))) [ true ↦ λ h. (inl h, refl) | false ↦ λ h. (inr h, refl) ])
    (λ v. elim [ inl h ↦ subst (λ x. OneOf x (P v) (Q v)) (sym (first v h)) h | inr h ↦ subst (λ x. OneOf x (P v) (Q v)) (sym (second v h)) h ])

-- ---- the path of a table, before which ONLY may stand, and a change

abbrev pub tabled_shape : Shape → Shape → Shape
tabled_shape s t = record (or_shape (or_shape t s) t) { opens = Safe; lacks = false }

any_covers : (b : Behind) → covers Anything b ≡ true
any_covers b = grind arith

-- behind a name that may be the word ONLY, and behind that word
abbrev behind_as : {A : Type 0} → {own change : Part A} → (a : Written own) → (b : Written change) → may_meet Words (shape_of a) ≡ true → may_meet Words (shape_of b) ≡ true → Written (behind_only own change)
behind_as a b e f = choose_as (seen_as (λ x. in_schema x.0 x.1) (lead_as dot_as (then_as (name_as no_gap) b f) (any_covers b.after))) (seen_as (λ x. key_word x.0 x.1) (then_as (path_as one_space) a e))

pub tabled_said : {A : Type 0} {own change : Part A} {P Q : A → Type 0} {a b : A → List (List ℕ)} {s t : Shape} (has : A → Bool) → ((v : A) → P v → has v ≡ true) → ((v : A) → has v ≡ true → Q v → P v) → Said own P a s → Said change Q b t → may_meet Words s ≡ true → may_meet Words t ≡ true
    → Said (table_and own change) (λ v. IsPath v.0 × OneOf (has v.1) (P v.1) (Q v.1)) (λ v. cond (has v.1) (codes " ONLY " ∷ path v.0 ∷ a v.1) (codes " " ∷ path v.0 ∷ b v.1)) (tabled_shape s t)
unfolding other_path_as
tabled_said {A} {own} {change} {P} {Q} {a} {b} {s} {t} has first other k j e f =
    let only : Written (only_name then behind_only own change) = then_as only_name_as (behind_as (written k) (written j) e f) (any_covers (tighter t.after s.after)) in
    let whole : Written (table_and own change) = choose_as (seen_as (λ x. only_path x.0 x.1) only) (then_as other_path_as (written j) f) in
    let Changed : QName × A → Type 0 = λ v. IsPath v.0 × OneOf (has v.1) (P v.1) (Q v.1) in
    let one : (v : A) → P v → OneOf (has v) (P v) (Q v) = λ v h. subst (λ x. OneOf x (P v) (Q v)) (sym (first v h)) h in
    let two : (v : A) → Q v → OneOf (has v) (P v) (Q v) = λ v h. elim (has v) as (λ x. (x ≡ true → P v) → OneOf x (P v) (Q v)) [ true ↦ λ to. to refl | false ↦ λ to. h ] (λ is. other v is h) in
    said_as whole
    (λ v is. elim (has v.1) as (λ x. OneOf x (P v.1) (Q v.1) → (fit : whole.Fit v) × (joined (whole.pieces v fit) ≡ joined (cond x (codes " ONLY " ∷ path v.0 ∷ a v.1) (codes " " ∷ path v.0 ∷ b v.1)))) [
      | true ↦ λ h. (inl ((codes "only", key_word v.0 v.1), (refl, inr ((v.0, v.1), (is.0, h), refl)), refl), refl)
      | false ↦ λ h. (inr (is.0, h), refl)
    ] is.1)
    (λ v. elim [
      | inl h ↦ subst Changed h.2 (elim h.1.1 [ inl x ↦ subst (λ y. Changed (only_path h.0.0 y)) x.2 ((h.1.0, x.1.0), two x.0.1 x.1.1) | inr y ↦ subst (λ z. Changed (only_path h.0.0 z)) y.2 (y.1.0, one y.0.1 y.1.1) ])
      | inr h ↦ (h.0, two v.1 h.1)
    ])
