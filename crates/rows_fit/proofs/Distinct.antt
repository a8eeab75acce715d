-- Names that are each none of those behind them, and names that a table has.
use Rattle.std.proofs.Common.{◌≡◌, ℕ, ◌+◌, ◌<◌, zero, suc, Bool, true, false, cond, not, ◌&&◌, ◌||◌, ◌==◌, List, [], ◌∷◌, length, map, drop, get_or, Some, refl, ap, sym, ◌∙◌, arith, add-one, drop-cons}
use Rattle.std.proofs.lemmas.Bool.{true≢false}
use Rattle.std.proofs.lemmas.Bool.Decides.{Decides-eqb}
use Rattle.std.specs.Option.{is_some}
use Rattle.std.specs.List.{list_any, position_from}
use Rattle.std.specs.Cmp.Lexicographic.{nat_list_eq_equiv}
use Rattle.cat_model.specs.declared.value.Column.{Column}
use Rattle.cat_model.specs.Values.{Bytes}
use Rattle.cat_model.specs.Lexemes.{same_text}
use Rattle.cat_model.specs.Tables.{column_there, distinct, columns_there}
use Rattle.cat_model.specs.CopiedRows.{all_columns}

cond_or : (b x : Bool) → cond b true x ≡ (b || x)
cond_or true x = refl
cond_or false x = refl

pub one_in_front : (name text : Bytes) (names : List Bytes) → cond (same_text name text) true (list_any (same_text text) names) ≡ list_any (same_text text) (name ∷ names)
one_in_front name text names = cond_or (same_text name text) (list_any (same_text text) names) ∙ ap (λ (b : Bool). b || list_any (same_text text) names) (nat_list_eq_equiv.symm name text)

and_false : (b : Bool) → (b && false) ≡ false
and_false true = refl
and_false false = refl

-- what isn't distinct at the end isn't
pub not_distinct : (k : ℕ) (names : List Bytes) → distinct (drop k names) ≡ false → distinct names ≡ false
not_distinct zero [] h = h
not_distinct zero (x ∷ xs) h = h
not_distinct (suc k) [] h = h
not_distinct (suc k) (x ∷ xs) h = ap (λ (b : Bool). not (list_any (same_text x) xs) && b) (not_distinct k xs h) ∙ and_false (not (list_any (same_text x) xs))

module _ (names : List Bytes) (i : ℕ) (name : Bytes) (below : i < length names) (is : name ≡ get_or names i name) where
  pub in_front : drop i names ≡ name ∷ drop (i + 1) names
  in_front =
      let e : drop i names ≡ get_or names i name ∷ drop (i + 1) names = rw add-one (drop-cons names i name below) in
      e ∙ ap (λ (n : Bytes). n ∷ drop (i + 1) names) (sym is)

  pub still_distinct : not (list_any (same_text name) (drop (i + 1) names)) ≡ true → distinct (drop (i + 1) names) ≡ true → distinct (drop i names) ≡ true
  still_distinct new rest = ap distinct in_front ∙ (λ j. new j && rest j)

  pub stands_twice : not (list_any (same_text name) (drop (i + 1) names)) ≡ false → distinct names ≡ false
  stands_twice old = not_distinct i names (ap distinct in_front ∙ ap (λ (b : Bool). b && distinct (drop (i + 1) names)) old)

-- ---- columns

named : (p : Bytes → Bool) (n : ℕ) (columns : List Column) → is_some (position_from p n (map (λ c. c.name) columns)) ≡ list_any (λ c. p c.name) columns
named p n [] = refl
named p n (c ∷ cs) =
    elim (p c.name) as (λ b. is_some (cond b (Some n) (position_from p (n + 1) (map (λ d. d.name) cs))) ≡ (b || list_any (λ d. p d.name) cs))
    [ true ↦ refl | false ↦ named p (n + 1) cs ]

pub has_place : (columns : List Column) (name : Bytes) → is_some (position_from (same_text name) 0 (map (λ c. c.name) columns)) ≡ column_there columns name
has_place columns name = named (same_text name) 0 columns

pub no_names : (columns : List Column) (names : List Bytes) → (length names == 0) ≡ true → true ≡ all_columns columns names
no_names columns [] h = refl
no_names columns (name ∷ names) h = let e : length (name ∷ names) ≡ 0 = (Decides-eqb (length (name ∷ names)) 0).0 h in absurd (omega arith)

pub some_names : (columns : List Column) (names : List Bytes) → (length names == 0) ≡ false → (columns_there columns names && length columns == length names) ≡ all_columns columns names
some_names columns [] h = absurd (true≢false h)
some_names columns (name ∷ names) h = refl
