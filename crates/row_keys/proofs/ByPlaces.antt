-- Keys by places are keys by names, and a key goes on field by field.
use Rattle.std.proofs.Common.{◌≡◌, ℕ, ◌+◌, ◌<◌, Bool, true, false, cond, List, [], ◌∷◌, ◌++◌, length, map, drop, get_or, Option, Some, None, refl, ap, sym, ◌∙◌, append_assoc, add-one, drop-cons}
use Rattle.std.specs.Option.{option_map}
use Rattle.std.specs.List.{position_from}
use Rattle.cat_model.specs.declared.value.Column.{Column}
use Rattle.cat_model.specs.Values.{Bytes, Row}
use Rattle.cat_model.specs.Lexemes.{same_text}
use Rattle.cat_model.specs.FieldTypes.{comparable}
use Rattle.cat_model.specs.Tables.{onto, compared_field, key_on}
use Rattle.row_keys.specs.ByPlaces.{place_in, field_at, key_at}

-- ---- field by field

-- the fields, where there are more
abbrev pub before : List Bytes → Option (List Bytes) → Option (List Bytes)
before fields more = option_map (λ (m : List Bytes). fields ++ m) more

pub none_before : (all : Option (List Bytes)) → all ≡ before [] all
none_before None = refl
none_before (Some m) = refl

onto_before : (fields : List Bytes) (field : Bytes) (more : Option (List Bytes)) → before fields (onto (Some field) more) ≡ before (fields ++ field ∷ []) more
onto_before fields field None = refl
onto_before fields field (Some m) = ap Some (sym (append_assoc fields (field ∷ []) m))

module _ (columns : List Column) (places : List (Option ℕ)) (row : Row) (i : ℕ) (place : Option ℕ) (below : i < length places) (is : place ≡ get_or places i place) where
  here : key_at columns (drop i places) row ≡ onto (field_at columns place row) (key_at columns (drop (i + 1) places) row)
  here =
      let e : drop i places ≡ get_or places i place ∷ drop (i + 1) places = rw add-one (drop-cons places i place below) in
      ap (λ (ps : List (Option ℕ)). key_at columns ps row) e
      ∙ ap (λ (p : Option ℕ). onto (field_at columns p row) (key_at columns (drop (i + 1) places) row)) (sym is)

  pub one_field : (fields : List Bytes) (field : Bytes) → key_at columns places row ≡ before fields (key_at columns (drop i places) row) → field_at columns place row ≡ Some field
      → key_at columns places row ≡ before (fields ++ field ∷ []) (key_at columns (drop (i + 1) places) row)
  one_field fields field so_far found =
      so_far ∙ ap (before fields) (here ∙ ap (λ (o : Option Bytes). onto o (key_at columns (drop (i + 1) places) row)) found)
      ∙ onto_before fields field (key_at columns (drop (i + 1) places) row)

  pub no_field : (fields : List Bytes) → key_at columns places row ≡ before fields (key_at columns (drop i places) row) → field_at columns place row ≡ None → key_at columns places row ≡ None
  no_field fields so_far missing =
      so_far ∙ ap (before fields) (here ∙ ap (λ (o : Option Bytes). onto o (key_at columns (drop (i + 1) places) row)) missing)

-- ---- by names

shifted : (p : Bytes → Bool) (n : ℕ) (names : List Bytes) → position_from p (n + 1) names ≡ option_map (λ (k : ℕ). k + 1) (position_from p n names)
shifted p n [] = refl
shifted p n (x ∷ xs) =
    elim (p x) as (λ b. cond b (Some (n + 1)) (position_from p (n + 1 + 1) xs) ≡ option_map (λ (k : ℕ). k + 1) (cond b (Some n) (position_from p (n + 1) xs)))
    [ true ↦ refl | false ↦ shifted p (n + 1) xs ]

behind_one : (c : Column) (cs : List Column) (f : Option Bytes) (fs : Row) (o : Option ℕ) → field_at (c ∷ cs) (option_map (λ (k : ℕ). k + 1) o) (f ∷ fs) ≡ field_at cs o fs
behind_one c cs f fs None = refl
behind_one c cs f fs (Some k) = rw add-one refl

no_fields : (columns : List Column) (o : Option ℕ) → field_at columns o [] ≡ None
no_fields columns None = refl
no_fields columns (Some k) = refl

by_place : (columns : List Column) (row : Row) (name : Bytes) → field_at columns (place_in columns name) row ≡ compared_field columns row name
by_place [] row name = refl
by_place (c ∷ cs) [] name = no_fields (c ∷ cs) (place_in (c ∷ cs) name)
by_place (c ∷ cs) (f ∷ fs) name =
    elim (same_text name c.name) as (λ b. field_at (c ∷ cs) (cond b (Some 0) (position_from (same_text name) 1 (map (λ d. d.name) cs))) (f ∷ fs) ≡ cond b (option_map (comparable c.resolved) f) (compared_field cs fs name)) [
      | true ↦ refl
      | false ↦
          ap (λ (o : Option ℕ). field_at (c ∷ cs) o (f ∷ fs)) (shifted (same_text name) 0 (map (λ d. d.name) cs))
          ∙ behind_one c cs f fs (place_in cs name)
          ∙ by_place cs fs name
    ]

pub by_places : (columns : List Column) (names : List Bytes) (row : Row) → key_at columns (map (place_in columns) names) row ≡ key_on columns names row
by_places columns [] row = refl
by_places columns (name ∷ names) row = λ i. onto (by_place columns row name i) (by_places columns names row i)
