-- Which numbers columns get: each the one that it had, where that is greater than the one before it and leaves room for the
-- columns behind it, and else the next one.
use Rattle.std.specs.Prelude.{ℕ, ◌+◌, ℤ, pos, negsuc, Bool, ◌&&◌, nat_lt, nat_le, List, [], ◌∷◌, length, if◌then◌else◌}
use Rattle.std.specs.FinMap.{insert}
use Rattle.cat_model.specs.declared.object.QName.{QName}
use Rattle.cat_model.specs.declared.key.Key.{Key}
use Rattle.cat_model.specs.declared.key.Key.TheVariants as key
use Rattle.cat_model.specs.declared.value.Value.{Value}
use Rattle.cat_model.specs.declared.value.Value.TheVariants as value
use Rattle.cat_model.specs.declared.value.Column.{Column}
use Rattle.column_numbers.specs.Numbers.{NumbersOf, number_of}

-- the greatest number
abbrev pub last : ℕ
last = 9223372036854775807

-- 0 for what is below it
abbrev pub natural : ℤ → ℕ
natural (pos n) = n
natural (negsuc n) = 0

-- behind one number, before so many further columns
abbrev pub has_room : ℕ → ℕ → ℕ → Bool
has_room before left had = nat_lt before had && nat_le (had + left) last

abbrev pub next_number : ℕ → ℕ → ℕ → ℕ
next_number before left had = if has_room before left had then had else before + 1

-- the number of a column behind another number and before further columns
abbrev pub number_after : NumbersOf → QName → ℕ → Column → List Column → ℕ
number_after had q before c cs = next_number before (length cs) (natural (number_of had q c.name))

-- the numbers of a table's columns, put one after another
abbrev pub with_columns : NumbersOf → QName → ℕ → List Column → NumbersOf → NumbersOf
with_columns had q before [] numbers = numbers
with_columns had q before (c ∷ cs) numbers = with_columns had q (number_after had q before c cs) cs (insert numbers (key.Default q c.name) (pos (number_after had q before c cs)))

-- those of an entry, where it is of a table
abbrev pub with_entry : NumbersOf → Key × Value → NumbersOf → NumbersOf
with_entry had (key.Rel q, value.Table columns) numbers = with_columns had q 0 columns numbers
with_entry had _ numbers = numbers

abbrev pub with_entries : NumbersOf → List (Key × Value) → NumbersOf → NumbersOf
with_entries had [] numbers = numbers
with_entries had (e ∷ es) numbers = with_entries had es (with_entry had e numbers)
