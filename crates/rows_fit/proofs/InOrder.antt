-- Fields by their places, and one field more that its column takes.
use Rattle.std.proofs.Common.{◌≡◌, ℕ, ◌+◌, ◌<◌, ◌≤◌, Bool, true, false, cond, ◌&&◌, ◌==◌, List, [], ◌∷◌, ◌++◌, length, map, drop, get_or, min, Option, Some, None, refl, ap, sym, ◌∙◌, arith, add-one, drop-cons, append_assoc, length-append, ⊎_elim}
use Rattle.std.proofs.lemmas.Bool.{cases_lt, true≢false}
use Rattle.std.proofs.lemmas.Bool.Decides.{Decides-eqb}
use Rattle.std.proofs.lemmas.List.{drop_all, get_or-map, length-map}
use Rattle.std.specs.Cmp.{first_so, second_so}
use Rattle.std.specs.Option.{option_map}
use Rattle.std.specs.List.{position_from, slice_get}
use Rattle.cat_model.specs.declared.value.Column.{Column}
use Rattle.cat_model.specs.Values.{Bytes, Row}
use Rattle.cat_model.specs.Lexemes.{same_text}
use Rattle.cat_model.specs.CopiedRows.{field_named, in_order, no_null, field_cause, fields_cause}
use Rattle.rows_fit.specs.Orders.{or_null, field_from, ordered_by, is_at, counts_from}

-- ---- fields by places

shifted : (p : Bytes → Bool) (n : ℕ) (names : List Bytes) → position_from p (n + 1) names ≡ option_map (λ (k : ℕ). k + 1) (position_from p n names)
shifted p n [] = refl
shifted p n (x ∷ xs) =
    elim (p x) as (λ b. cond b (Some (n + 1)) (position_from p (n + 1 + 1) xs) ≡ option_map (λ (k : ℕ). k + 1) (cond b (Some n) (position_from p (n + 1) xs)))
    [ true ↦ refl | false ↦ shifted p (n + 1) xs ]

behind_one : (f : Option Bytes) (fs : Row) (o : Option ℕ) → field_from (f ∷ fs) (option_map (λ (k : ℕ). k + 1) o) ≡ field_from fs o
behind_one f fs None = refl
behind_one f fs (Some k) = rw add-one refl

no_fields : (o : Option ℕ) → field_from [] o ≡ None
no_fields None = refl
no_fields (Some k) = refl

by_place : (names : List Bytes) (fields : Row) (column : Bytes) → field_named names fields column ≡ field_from fields (position_from (same_text column) 0 names)
by_place [] fields column = refl
by_place (name ∷ names) [] column = sym (no_fields (position_from (same_text column) 0 (name ∷ names)))
by_place (name ∷ names) (f ∷ fs) column =
    elim (same_text column name) as (λ b. cond b f (field_named names fs column) ≡ field_from (f ∷ fs) (cond b (Some 0) (position_from (same_text column) 1 names))) [
      | true ↦ refl
      | false ↦
          by_place names fs column
          ∙ sym (behind_one f fs (position_from (same_text column) 0 names))
          ∙ ap (field_from (f ∷ fs)) (sym (shifted (same_text column) 0 names))
    ]

abbrev pub places : List Bytes → List Column → List (Option ℕ)
places names columns = map (λ c. position_from (same_text c.name) 0 names) columns

by_places : (names : List Bytes) (fields : Row) (columns : List Column) → map (λ c. field_named names fields c.name) columns ≡ map (field_from fields) (places names columns)
by_places names fields [] = refl
by_places names fields (c ∷ cs) = λ i. by_place names fields c.name i ∷ by_places names fields cs i

pub picked_by : (columns : List Column) (names : List Bytes) (fields : Row) → 0 < length names → in_order columns names fields ≡ ordered_by (Some (places names columns)) fields
picked_by columns [] fields some = absurd (omega arith)
picked_by columns (name ∷ names) fields some = by_places (name ∷ names) fields columns

pub not_empty : (names : List Bytes) → (length names == 0) ≡ false → 0 < length names
not_empty [] h = absurd (true≢false h)
not_empty (name ∷ names) h = omega arith

-- ---- fields that stand in order

seam : (front : Row) (f : Option Bytes) (fs : Row) → slice_get (front ++ f ∷ fs) (length front) ≡ Some f
seam [] f fs = refl
seam (x ∷ xs) f fs = seam xs f fs

stays : (front : Row) (f : Option Bytes) (fs : Row) (place : Option ℕ) → is_at (length front) place ≡ true → field_from (front ++ f ∷ fs) place ≡ f
stays front f fs None h = cc
stays front f fs (Some p) h =
    let e : p ≡ length front = (Decides-eqb p (length front)).0 h in
    ap (λ (k : ℕ). or_null (slice_get (front ++ f ∷ fs) k)) e ∙ ap or_null (seam front f fs)

counted : (front fields : Row) (ps : List (Option ℕ)) → counts_from (length front) ps ≡ true → length fields ≡ length ps → map (field_from (front ++ fields)) ps ≡ fields
counted front [] [] h e = refl
counted front [] (p ∷ ps) h e = absurd (omega arith)
counted front (f ∷ fs) [] h e = absurd (omega arith)
counted front (f ∷ fs) (p ∷ ps) h e =
    let here = first_so (is_at (length front) p) (counts_from (length front + 1) ps) h in
    let there = second_so (is_at (length front) p) (counts_from (length front + 1) ps) h in
    let n : length front + 1 ≡ length (front ++ f ∷ []) = sym (length-append front (f ∷ [])) in
    let counts : counts_from (length (front ++ f ∷ [])) ps ≡ true = ap (λ (k : ℕ). counts_from k ps) (sym n) ∙ there in
    let rest : map (field_from ((front ++ f ∷ []) ++ fs)) ps ≡ fs = counted (front ++ f ∷ []) fs ps counts (omega arith) in
    λ i. stays front f fs p here i ∷ (ap (λ (all : Row). map (field_from all) ps) (sym (append_assoc front (f ∷ []) fs)) ∙ rest) i

pub in_place : (columns : List Column) (names : List Bytes) (fields : Row) → 0 < length names → counts_from 0 (places names columns) ≡ true → length fields ≡ length columns → in_order columns names fields ≡ ordered_by None fields
in_place columns names fields some counts e =
    picked_by columns names fields some
    ∙ counted [] fields (places names columns) counts (let l = length-map columns (λ (c : Column). position_from (same_text c.name) 0 names) in omega arith)

pub without_names : (columns : List Column) (names : List Bytes) (fields : Row) → length names ≡ 0 → in_order columns names fields ≡ ordered_by None fields
without_names columns [] fields none = refl
without_names columns (name ∷ names) fields none = absurd (omega arith)

pub one_place : (n : ℕ) (ps : List (Option ℕ)) (i : ℕ) (p : Option ℕ) → i < length ps → p ≡ get_or ps i p → counts_from n (drop i ps) ≡ (is_at n p && counts_from (n + 1) (drop (i + 1) ps))
one_place n ps i p below is =
    let e : drop i ps ≡ get_or ps i p ∷ drop (i + 1) ps = rw add-one (drop-cons ps i p below) in
    ap (counts_from n) e ∙ ap (λ (q : Option ℕ). is_at n q && counts_from (n + 1) (drop (i + 1) ps)) (sym is)

-- ---- causes

module _ (primary : List Bytes) (row : ℕ) where
  pub one_field : (n : ℕ) (columns : List Column) (fields : Row) (i : ℕ) (c : Column) (f : Option Bytes) → i < length columns → i < length fields → c ≡ get_or columns i c → f ≡ get_or fields i f
      → fields_cause primary row n (drop i columns) (drop i fields) ≡ field_cause primary row n c f (fields_cause primary row (n + 1) (drop (i + 1) columns) (drop (i + 1) fields))
  one_field n columns fields i c f below within is there =
      let e : drop i columns ≡ get_or columns i c ∷ drop (i + 1) columns = rw add-one (drop-cons columns i c below) in
      let d : drop i fields ≡ get_or fields i f ∷ drop (i + 1) fields = rw add-one (drop-cons fields i f within) in
      (λ j. fields_cause primary row n (e j) (d j))
      ∙ (λ j. field_cause primary row n (sym is j) (sym there j) (fields_cause primary row (n + 1) (drop (i + 1) columns) (drop (i + 1) fields)))

  none_left : (n : ℕ) (columns : List Column) → fields_cause primary row n columns [] ≡ None
  none_left n [] = refl
  none_left n (c ∷ cs) = refl

  pub no_more : (n : ℕ) (columns : List Column) (fields : Row) (i : ℕ) → min (length columns) (length fields) ≤ i → fields_cause primary row n (drop i columns) (drop i fields) ≡ None
  no_more n columns fields i past =
      ⊎_elim
      (λ (some : i < length columns).
      let none : length fields ≤ i = omega arith in
      ap (λ (fs : Row). fields_cause primary row n (drop i columns) fs) (drop_all i fields none) ∙ none_left n (drop i columns))
      (λ (none : length columns ≤ i). ap (λ (cs : List Column). fields_cause primary row n cs (drop i fields)) (drop_all i columns none))
      (cases_lt i (length columns))

  pub marked_at : (columns : List Column) (required : List Bool) (i : ℕ) (c : Column) → required ≡ map (no_null primary) columns → i < length columns → c ≡ get_or columns i c → get_or required i false ≡ no_null primary c
  marked_at columns required i c e below is =
      ap (λ (r : List Bool). get_or r i false) e ∙ get_or-map (no_null primary) columns i c false below ∙ ap (no_null primary) (sym is)
