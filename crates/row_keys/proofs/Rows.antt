-- Going over rows one by one: the keys so far and those that are left; the first that repeats, the first orphan, the
-- first null.
use Rattle.std.proofs.Common.{◌≡◌, ℕ, ◌+◌, ◌<◌, ◌≤◌, Bool, true, false, cond, not, ◌&&◌, List, [], ◌∷◌, ◌++◌, length, map, take, drop, get_or, Option, Some, None, refl, ap, sym, ◌∙◌, arith, add-one, drop-cons, length-take-le, min, ⊎_elim}
use Rattle.std.proofs.lemmas.Bool.{cases_lt}
use Rattle.std.specs.Option.{is_some, IfNone}
use Rattle.std.specs.List.{list_any}
use Rattle.std.proofs.lemmas.List.{take_more, take_all, drop_all, get_or-map, length-map}
use Rattle.cat_model.specs.declared.value.Column.{Column}
use Rattle.cat_model.specs.Values.{Bytes, Row}
use Rattle.cat_model.specs.Lexemes.{same_text}
use Rattle.cat_model.specs.Tables.{place_of, same_key, key_on, pair_or, repeated_after, orphan_of, column_and_row, null_among, null_in}
use Rattle.row_keys.specs.ByPlaces.{place_in, key_at}
use Rattle.row_keys.specs.Known.{is_orphan}
use Rattle.row_keys.specs.Nulls.{null_at, first_null}
use Rattle.row_keys.proofs.ByPlaces.{by_places}

abbrev Key : Type 0
Key = List Bytes

pub from_none : {P : Type 0} (o : Option ℕ) → o ≡ None → IfNone o P → P
from_none None e p = p
from_none (Some n) e p = cc

pub by_names : (columns : List Column) (names : List Bytes) (rows : List Row) → map (key_at columns (map (place_in columns) names)) rows ≡ map (key_on columns names) rows
by_names columns names [] = refl
by_names columns names (row ∷ rows) = λ i. by_places columns names row i ∷ by_names columns names rows i

-- ---- one more row

by_key : (n : ℕ) (parents : List (Option Key)) (k : Option Key) (ks : List (Option Key)) → orphan_of n parents (k ∷ ks) ≡ cond (is_orphan parents k) (Some n) (orphan_of (n + 1) parents ks)
by_key n parents None ks = refl
by_key n parents (Some k) ks =
    elim (list_any (same_key (Some k)) parents) as (λ b. cond b (orphan_of (n + 1) parents ks) (Some n) ≡ cond (not b) (Some n) (orphan_of (n + 1) parents ks))
    [ true ↦ refl | false ↦ refl ]

module _ (key : Row → Option Key) (rows : List Row) (i : ℕ) (row : Row) (below : i < length rows) (is : row ≡ get_or rows i row) where
  at : get_or (map key rows) i (key row) ≡ key row
  at = get_or-map key rows i row (key row) below ∙ ap key (sym is)

  within : i < length (map key rows)
  within = let e = length-map rows key in omega arith

  pub one_taken : take (i + 1) (map key rows) ≡ take i (map key rows) ++ key row ∷ []
  one_taken = take_more (map key rows) i (key row) within ∙ ap (λ (k : Option Key). take i (map key rows) ++ k ∷ []) at

  one_dropped : drop i (map key rows) ≡ key row ∷ drop (i + 1) (map key rows)
  one_dropped =
      let e : drop i (map key rows) ≡ get_or (map key rows) i (key row) ∷ drop (i + 1) (map key rows) = rw add-one (drop-cons (map key rows) i (key row) within) in
      e ∙ ap (λ (k : Option Key). k ∷ drop (i + 1) (map key rows)) at

  pub counted : i + 1 ≡ length (take i (map key rows)) + 1
  counted = let e = length-take-le i (map key rows) (let h = within in omega arith) in omega arith

  pub one_row : repeated_after (take i (map key rows)) (drop i (map key rows))
      ≡ pair_or (repeated_after (take (i + 1) (map key rows)) (drop (i + 1) (map key rows))) (i + 1) (place_of 1 (key row) (take i (map key rows)))
  one_row =
      ap (λ (ks : List (Option Key)). repeated_after (take i (map key rows)) ks) one_dropped
      ∙ (λ j. pair_or (repeated_after (sym one_taken j) (drop (i + 1) (map key rows))) (sym counted j) (place_of 1 (key row) (take i (map key rows))))

  pub one_child : (n : ℕ) (parents : List (Option Key)) → orphan_of n parents (drop i (map key rows)) ≡ cond (is_orphan parents (key row)) (Some n) (orphan_of (n + 1) parents (drop (i + 1) (map key rows)))
  one_child n parents = ap (λ (ks : List (Option Key)). orphan_of n parents ks) one_dropped ∙ by_key n parents (key row) (drop (i + 1) (map key rows))

-- behind all rows
pub all_taken : (key : Row → Option Key) (rows : List Row) (i : ℕ) → length rows ≤ i → take i (map key rows) ≡ map key rows
all_taken key rows i past = take_all i (map key rows) (let e = length-map rows key in omega arith)

pub none_left : (key : Row → Option Key) (rows : List Row) (i : ℕ) → length rows ≤ i → drop i (map key rows) ≡ []
none_left key rows i past = drop_all i (map key rows) (let e = length-map rows key in omega arith)

-- ---- nulls

by_field : (n : ℕ) (m : Bool) (f : Option Bytes) (ms : List Bool) (fs : Row) → null_at n (m ∷ ms) (f ∷ fs) ≡ cond (m && not (is_some f)) (Some n) (null_at (n + 1) ms fs)
by_field n true None ms fs = refl
by_field n false None ms fs = refl
by_field n true (Some f) ms fs = refl
by_field n false (Some f) ms fs = refl

pub one_field : (n : ℕ) (named : List Bool) (fields : Row) (i : ℕ) (m : Bool) (f : Option Bytes) → i < length named → i < length fields → m ≡ get_or named i m → f ≡ get_or fields i f
    → null_at n (drop i named) (drop i fields) ≡ cond (m && not (is_some f)) (Some n) (null_at (n + 1) (drop (i + 1) named) (drop (i + 1) fields))
one_field n named fields i m f below within is there =
    let e : drop i named ≡ get_or named i m ∷ drop (i + 1) named = rw add-one (drop-cons named i m below) in
    let d : drop i fields ≡ get_or fields i f ∷ drop (i + 1) fields = rw add-one (drop-cons fields i f within) in
    (λ j. null_at n (e j) (d j))
    ∙ (λ j. null_at n (sym is j ∷ drop (i + 1) named) (sym there j ∷ drop (i + 1) fields))
    ∙ by_field n m f (drop (i + 1) named) (drop (i + 1) fields)

no_fields : (n : ℕ) (named : List Bool) → null_at n named [] ≡ None
no_fields n [] = refl
no_fields n (m ∷ ms) = refl

pub no_more : (n : ℕ) (named : List Bool) (fields : Row) (i : ℕ) → min (length named) (length fields) ≤ i → null_at n (drop i named) (drop i fields) ≡ None
no_more n named fields i past =
    ⊎_elim
    (λ (some : i < length named).
    let none : length fields ≤ i = omega arith in
    ap (λ (fs : Row). null_at n (drop i named) fs) (drop_all i fields none) ∙ no_fields n (drop i named))
    (λ (none : length named ≤ i). ap (λ (ms : List Bool). null_at n ms (drop i fields)) (drop_all i named none))
    (cases_lt i (length named))

among : (n : ℕ) (columns : List Column) (names : List Bytes) (row : Row) → null_at n (map (λ c. list_any (same_text c.name) names) columns) row ≡ null_among n columns names row
among n [] names row = refl
among n (c ∷ cs) names [] = refl
among n (c ∷ cs) names (Some f ∷ fs) = among (n + 1) cs names fs
among n (c ∷ cs) names (None ∷ fs) = ap (λ (o : Option ℕ). cond (list_any (same_text c.name) names) (Some n) o) (among (n + 1) cs names fs)

pub by_marks : (n : ℕ) (columns : List Column) (names : List Bytes) (rows : List Row) → first_null n (map (λ c. list_any (same_text c.name) names) columns) rows ≡ null_in n columns names rows
by_marks n columns names [] = refl
by_marks n columns names (row ∷ rows) = λ i. column_and_row (by_marks (n + 1) columns names rows i) n (among 1 columns names row i)
