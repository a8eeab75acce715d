-- The conditions of pg_enum.
use Rattle.std.specs.Prelude.{ℕ, ℤ, pos, negsuc, Bool, true, false, not, ◌&&◌, ◌==◌, nat_le, Option, Some, None}
use Rattle.cat_rows.specs.declared.catalogue.Catalogue.{Catalogue}
use Rattle.cat_rows.specs.declared.types.TypeRow.{TypeRow}
use Rattle.cat_rows.specs.declared.types.EnumRow.{EnumRow}
use Rattle.cat_book.specs.Chains.{type_of}
use Rattle.cat_book.specs.Leads.{label_count}
use Rattle.cat_book.specs.Rules.{Rules}

-- the letter of an enum among the types
abbrev pub is_enum_letter : ℕ → Bool
is_enum_letter letter = letter == 101

abbrev pub is_enum : Option TypeRow → Bool
is_enum None = false
is_enum (Some type) = is_enum_letter type.typtype

-- places run from 1 to the number of the type's labels
abbrev pub is_place : ℕ → ℤ → Bool
is_place count (pos n) = nat_le 1 n && nat_le n count
is_place count (negsuc n) = false

-- labels and places of a type are distinct, the type is an enum, and the places run from 1
abbrev pub label_rules : Rules Catalogue EnumRow
label_rules = record {
  keys = λ row. record { oid = Some row.oid; name = Some (row.enumtypid, 0, pos 0, row.enumlabel); place = Some (row.enumtypid, row.enumpos); is_marked = false };
  unmet = λ cat row. record {
    dangles = not (is_enum (type_of cat.pg_type row.enumtypid));
    is_bad = not (is_place (label_count cat row.enumtypid) row.enumpos);
    left_out = None;
  };
  needed = λ cat. true;
}
