-- Tables and their rows: columns by name, keys of rows, rows with one key and rows without a parent.
use Rattle.std.specs.Prelude.{ℕ, ◌+◌, Bool, true, false, ◌&&◌, ◌||◌, not, List, [], ◌∷◌, ◌++◌, map, length, Option, Some, None, if◌then◌else◌}
use Rattle.std.specs.Option.{option_map}
use Rattle.std.specs.List.{list_all, list_any}
use Rattle.std.specs.Cmp.Lexicographic.{pointwise}
use Rattle.cat_model.specs.Values.{Bytes, Column, Row}
use Rattle.cat_model.specs.Lexemes.{same_text}
use Rattle.cat_model.specs.FieldTypes.{comparable}

-- ---- columns

abbrev pub column_there : List Column → Bytes → Bool
column_there columns name = list_any (λ c. same_text name c.name) columns

abbrev pub distinct : List Bytes → Bool
distinct [] = true
distinct (x ∷ xs) = not (list_any (same_text x) xs) && distinct xs

-- the names are columns of the table, none twice
abbrev pub columns_there : List Column → List Bytes → Bool
columns_there columns names = list_all (column_there columns) names && distinct names

-- each of the names is one of the others, and the other way round
abbrev pub same_set : List Bytes → List Bytes → Bool
same_set a b = list_all (λ x. list_any (same_text x) b) a && list_all (λ x. list_any (same_text x) a) b

-- ---- keys of rows

-- the value of a row in a column, as it is compared; None where it is null
abbrev pub compared_field : List Column → Row → Bytes → Option Bytes
compared_field [] row name = None
compared_field (c ∷ cs) [] name = None
compared_field (c ∷ cs) (f ∷ fs) name = if same_text name c.name then option_map (comparable c.resolved) f else compared_field cs fs name

abbrev pub onto : Option Bytes → Option (List Bytes) → Option (List Bytes)
onto (Some f) (Some fs) = Some (f ∷ fs)
onto _ _ = None

-- a row's key on columns; None where one of them is null
abbrev pub key_on : List Column → List Bytes → Row → Option (List Bytes)
key_on columns [] row = Some []
key_on columns (name ∷ names) row = onto (compared_field columns row name) (key_on columns names row)

abbrev pub same_key : Option (List Bytes) → Option (List Bytes) → Bool
same_key (Some a) (Some b) = pointwise same_text a b
same_key _ _ = false

-- the number of the first of these keys that is the same, counted from n
abbrev pub place_of : ℕ → Option (List Bytes) → List (Option (List Bytes)) → Option ℕ
place_of n k [] = None
place_of n k (j ∷ js) = if same_key k j then Some n else place_of (n + 1) k js

abbrev pub pair_or : Option (ℕ × ℕ) → ℕ → Option ℕ → Option (ℕ × ℕ)
pair_or later second (Some first) = Some (first, second)
pair_or later second None = later

-- behind earlier keys the first key that stands among those before it, and the first of these
abbrev pub repeated_after : List (Option (List Bytes)) → List (Option (List Bytes)) → Option (ℕ × ℕ)
repeated_after before [] = None
repeated_after before (k ∷ ks) = pair_or (repeated_after (before ++ k ∷ []) ks) (length before + 1) (place_of 1 k before)

-- the least row whose key an earlier row has, behind the least such row; a row with a null isn't compared
abbrev pub repeated : List Column → List Bytes → List Row → Option (ℕ × ℕ)
repeated columns names rows = repeated_after [] (map (key_on columns names) rows)

-- the number of the first key that isn't None and isn't among the parents' keys, counted from n
abbrev pub orphan_of : ℕ → List (Option (List Bytes)) → List (Option (List Bytes)) → Option ℕ
orphan_of n parents [] = None
orphan_of n parents (None ∷ ks) = orphan_of (n + 1) parents ks
orphan_of n parents (Some k ∷ ks) = if list_any (same_key (Some k)) parents then orphan_of (n + 1) parents ks else Some n

-- the least row without a null in its columns that has no parent
abbrev pub orphan : List Column → List Bytes → List Row → List Column → List Bytes → List Row → Option ℕ
orphan columns names rows parent_columns parent_names parent_rows =
    orphan_of 1 (map (key_on parent_columns parent_names) parent_rows) (map (key_on columns names) rows)

-- the first of these columns in the table's order that is null in a row, counted from n
abbrev pub null_among : ℕ → List Column → List Bytes → Row → Option ℕ
null_among n [] names row = None
null_among n (c ∷ cs) names [] = None
null_among n (c ∷ cs) names (Some f ∷ fs) = null_among (n + 1) cs names fs
null_among n (c ∷ cs) names (None ∷ fs) = if list_any (same_text c.name) names then Some n else null_among (n + 1) cs names fs

abbrev pub column_and_row : Option (ℕ × ℕ) → ℕ → Option ℕ → Option (ℕ × ℕ)
column_and_row later row (Some column) = Some (column, row)
column_and_row later row None = later

-- the least row with a null in one of these columns, and the least such column; rows are counted from n
abbrev pub null_in : ℕ → List Column → List Bytes → List Row → Option (ℕ × ℕ)
null_in n columns names [] = None
null_in n columns names (row ∷ rows) = column_and_row (null_in (n + 1) columns names rows) n (null_among 1 columns names row)
