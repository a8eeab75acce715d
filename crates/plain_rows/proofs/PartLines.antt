-- The lines of a text that begins with a part that ends with a newline, and the keys of a part behind those before it.
use Rattle.std.proofs.Common.{◌≡◌, ℕ, suc, ◌<◌, Bool, true, false, not, ◌&&◌, ◌||◌, cond, eqb, List, [], ◌∷◌, ◌++◌, length, append_assoc, get_or, Option, Some, None, refl, sym, ap, subst, ◌∙◌, ◌⊎◌, inl, inr, arith}
use Rattle.std.specs.Cmp.{first_so, second_so}
use Rattle.std.specs.List.{AllByRecursion, list_any, onto_first}
use Rattle.std.specs.Str.{bytes_eq}
use Rattle.std.proofs.lemmas.Bool.{true≢false, cases_Bool, cond-false, and_from, false_from_ne_true, not-true, or_parts}
use Rattle.std.proofs.lemmas.List.Folds.{list_any-append}
use Rattle.std.proofs.lemmas.Slice.Eq.{bytes_eq-Decides}
use Rattle.copy_text.specs.Marks.{newline, backslash, end_mark}
use Rattle.copy_text.specs.Lines.{before_end_mark, lines}
use Rattle.line_fields.specs.Clear.{IsClearText}
use Rattle.line_fields.proofs.ClearLines.{neither}
use Rattle.cat_model.specs.Values.{Bytes}
use Rattle.cat_model.specs.Lexemes.{same_text}
use Rattle.cat_model.proofs.MarkLaws.{same_text-equal, same_text-self}
use Rattle.key_sets.specs.declared.key_set.KeySet.{KeySet}
use Rattle.key_sets.specs.Holding.{holds}
use Rattle.plain_rows.specs.Lines.{none_again, same_some}
use Rattle.plain_rows.specs.Parts.{AreApart, EndsLine}

-- ---- lines

some_lines : (front : Bytes) → (line : Bytes) × (found : List Bytes) × (lines (front ++ newline ∷ []) ≡ line ∷ found)
unfolding lines
some_lines [] = ([], [], refl)
some_lines (b ∷ front) = by (eqb b newline) (some_lines front)
  where
    by : (is : Bool) → (line : Bytes) × (found : List Bytes) × (lines (front ++ newline ∷ []) ≡ line ∷ found)
        → (line : Bytes) × (found : List Bytes) × (cond is ([] ∷ lines (front ++ newline ∷ [])) (onto_first b (lines (front ++ newline ∷ []))) ≡ line ∷ found)
    by true later = ([], lines (front ++ newline ∷ []), refl)
    by false later = (b ∷ later.0, later.1, ap (onto_first b) later.2)

onto_append : (b : ℕ) (line : Bytes) (found xs ys : List Bytes) → xs ≡ line ∷ found → onto_first b (xs ++ ys) ≡ onto_first b xs ++ ys
onto_append b line found xs ys is = ap (λ (zs : List Bytes). onto_first b (zs ++ ys)) is ∙ sym (ap (λ (zs : List Bytes). onto_first b zs ++ ys) is)

lines_append : (front more : Bytes) → lines (front ++ newline ∷ more) ≡ lines (front ++ newline ∷ []) ++ lines more
unfolding lines
lines_append [] more = refl
lines_append (b ∷ front) more = by (eqb b newline) (lines_append front more)
  where
    by : (is : Bool) → lines (front ++ newline ∷ more) ≡ lines (front ++ newline ∷ []) ++ lines more
        → cond is ([] ∷ lines (front ++ newline ∷ more)) (onto_first b (lines (front ++ newline ∷ more)))
        ≡ cond is ([] ∷ lines (front ++ newline ∷ [])) (onto_first b (lines (front ++ newline ∷ []))) ++ lines more
    by true later = ap (λ (xs : List Bytes). [] ∷ xs) later
    by false later =
        let some = some_lines front in
        ap (onto_first b) later ∙ onto_append b some.0 some.1 (lines (front ++ newline ∷ [])) (lines more) some.2

-- ---- no line is the end mark

abbrev HasNone : Bytes → Type 0
HasNone line = AllByRecursion (λ b. eqb b backslash ≡ false) line

none_there : (text : Bytes) → ((k : ℕ) → k < length text → eqb (get_or text k 0) backslash ≡ false) → HasNone text
none_there [] none = tt
none_there (b ∷ text) none = (none 0 (omega arith), none_there text (λ k lt. none (suc k) (omega arith)))

lines_none : (text : Bytes) → HasNone text → AllByRecursion HasNone (lines text)
unfolding lines
lines_none [] all = tt
lines_none (b ∷ text) all = by (eqb b newline) (lines_none text all.1)
  where
    longer : (found : List Bytes) → AllByRecursion HasNone found → AllByRecursion HasNone (onto_first b found)
    longer [] each = ((all.0, tt), tt)
    longer (line ∷ found) each = ((all.0, each.0), each.1)

    by : (is : Bool) → AllByRecursion HasNone (lines text) → AllByRecursion HasNone (cond is ([] ∷ lines text) (onto_first b (lines text)))
    by true later = (tt, later)
    by false later = longer (lines text) later

no_end_mark : (line : Bytes) → HasNone line → bytes_eq line end_mark ≡ false
no_end_mark line none = false_from_ne_true _ (λ same. true≢false (subst HasNone ((bytes_eq-Decides line end_mark).0 same) none).0)

before_append : (xs ys : List Bytes) → AllByRecursion HasNone xs → before_end_mark (xs ++ ys) ≡ before_end_mark xs ++ before_end_mark ys
before_append [] ys each = refl
before_append (line ∷ xs) ys each =
    let go : bytes_eq line end_mark ≡ false = no_end_mark line each.0 in
    cond-false _ _ _ go ∙ ap (λ (zs : List Bytes). line ∷ zs) (before_append xs ys each.1) ∙ sym (ap (λ (zs : List Bytes). zs ++ before_end_mark ys) (cond-false _ _ _ go))

-- a part without a backslash that ends with a newline
pub part_ends : (part front : Bytes) → part ≡ front ++ newline ∷ [] → IsClearText part → EndsLine part
part_ends part front is clear more =
    let all : AllByRecursion HasNone (lines part) = lines_none part (none_there part (λ k lt. (neither part k clear.clear lt).0)) in
    let split : lines (part ++ more) ≡ lines part ++ lines more =
    ap (λ (xs : Bytes). lines (xs ++ more)) is
    ∙ ap lines (append_assoc front (newline ∷ []) more)
    ∙ lines_append front more
    ∙ sym (ap (λ (xs : Bytes). lines xs ++ lines more) is) in
    ap before_end_mark split ∙ before_append (lines part) (lines more) all

-- ---- keys

same_either : (a b : Bytes) → same_text a b ≡ same_text b a
same_either a b = by (cases_Bool (same_text a b)) (cases_Bool (same_text b a))
  where
    turned : (x y : Bytes) → same_text x y ≡ true → same_text y x ≡ true
    turned x y same = ap (λ (z : Bytes). same_text z x) (sym (same_text-equal x y same)) ∙ same_text-self x

    by : (same_text a b ≡ true) ⊎ (same_text a b ≡ false) → (same_text b a ≡ true) ⊎ (same_text b a ≡ false) → same_text a b ≡ same_text b a
    by (inl one) which = one ∙ sym (turned a b one)
    by (inr one) (inl other) = turned b a other ∙ sym other
    by (inr one) (inr other) = one ∙ sym other

or_swap : (x y : Bool) → (x || y) ≡ (y || (x || false))
or_swap true true = refl
or_swap true false = refl
or_swap false true = refl
or_swap false false = refl

-- none stands again where one more key is new to those known and to these
none_more : (known : List Bytes) (keys : List (Option Bytes)) (key : Bytes) → none_again known keys ≡ true → list_any (same_text key) known ≡ false → list_any (same_some key) keys ≡ false
    → none_again known (keys ++ Some key ∷ []) ≡ true
none_more known [] key all new other = ap (λ (b : Bool). not b && true) new
none_more known (None ∷ keys) key all new other = none_more known keys key all new other
none_more known (Some first ∷ keys) key all new other =
    let parts = or_parts (same_text key first) (list_any (same_some key) keys) other in
    let rest = none_more (first ∷ known) keys key (second_so (not (list_any (same_text first) known)) (none_again (first ∷ known) keys) all) (ap (λ (b : Bool). b || list_any (same_text key) known) parts.0 ∙ new) parts.1 in
    and_from _ _ (first_so (not (list_any (same_text first) known)) (none_again (first ∷ known) keys) all) rest

pub one_apart : (before : List (Option Bytes)) (key : Bytes) (old new : KeySet) → holds old key ≡ false → ((q : Bytes) → holds new q ≡ (same_text key q || holds old q)) → AreApart before old → AreApart (before ++ Some key ∷ []) new
one_apart before key old new isnt added are = record {
  exact = λ q.
      added q
      ∙ ap (λ (b : Bool). same_text key q || b) (are.exact q)
      ∙ ap (λ (b : Bool). b || list_any (same_some q) before) (same_either key q)
      ∙ or_swap (same_text q key) (list_any (same_some q) before)
      ∙ sym (list_any-append (same_some q) before (Some key ∷ []));
  apart = none_more [] before key are.apart refl (sym (are.exact key) ∙ isnt);
}

-- a key that was added, of which it is told that it has a place and is new
pub added_number : (numbered there : Bool) → true ≡ (numbered && not there) → there ≡ false
added_number numbered there is = not-true there (second_so numbered (not there) (sym is))
