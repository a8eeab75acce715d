-- What one key of the catalogue asks of the value of another, and when a value meets it.
use Rattle.std.specs.Prelude.{◌≡◌, ℤ, Bool, true, false, ◌&&◌, ◌||◌, not, ◌==◌, List, length, Option, Some, None}
use Rattle.std.specs.List.{list_all}
use Rattle.cat_model.specs.declared.object.QName.{QName}
use Rattle.cat_model.specs.declared.type_name.TypeName.TheVariants.{Path}
use Rattle.cat_model.specs.declared.value.Value.TheVariants as value
use Rattle.cat_model.specs.declared.grant.Rights.{Rights}
use Rattle.cat_model.specs.declared.value.Value.{Value}
use Rattle.cat_model.specs.declared.value.Column.{Column}
use Rattle.cat_model.specs.declared.value.Resolved.{Resolved}
use Rattle.cat_model.specs.Values.{Bytes, Grants, Row}
use Rattle.cat_model.specs.Lexemes.{same_text}
use Rattle.cat_model.specs.Tables.{columns_there}
use Rattle.cat_model.specs.RelationEffects.{within}
use Rattle.cat_model.specs.Conditions.{is_sequence, is_view}
use Rattle.cat_sound.specs.Rights.{rights_of, AreWithin}

pub data Asked : Type 0 where
  -- a value, whatever it is
  there : Asked
  -- an object that has an owner
  ownable : Asked
  -- an object that has these rights
  takes : Grants → Asked
  -- an owner of another name
  other_owner : Bytes → Asked
  -- the type of this path, which comes to that at the end of its chain of domains
  comes_to : QName → Resolved → Asked
  -- a table that has these columns, of which none is named twice
  has_columns : List Bytes → Asked
  -- a table whose columns these rows have fields for
  holds : List Row → Asked
  -- a sequence whose bounds a number lies between
  counts : ℤ → Asked
  -- a sequence
  a_sequence : Asked
  -- a view
  a_view : Asked
  -- an index of this table
  index_on : QName → Asked

-- ---- when a value meets it

-- schemas, types, relations but indexes, and databases have an owner
abbrev pub is_ownable : Value → Bool
is_ownable value.Schema = true
is_ownable (value.Enum labels) = true
is_ownable (value.Domain d) = true
is_ownable (value.Table columns) = true
is_ownable (value.Sequence s) = true
is_ownable value.View = true
is_ownable (value.Database encoding) = true
is_ownable _ = false

abbrev pub HasRights : Grants → Option Rights → Type 0
HasRights grants (Some rights) = AreWithin grants rights
HasRights grants None = ⊥

abbrev pub IsOther : Bytes → Value → Type 0
IsOther role (value.Owner name) = same_text name role ≡ false
IsOther role _ = ⊥

-- what a type of this path is at the end of its chain of domains
abbrev pub end_of : QName → Value → Option Resolved
end_of q (value.Enum labels) = Some (record { type_name = Path q; labels = Some labels; not_null = false })
end_of q (value.Domain d) = Some (record d.resolved { not_null = d.resolved.not_null || d.not_null })
end_of q _ = None

abbrev pub HasColumns : List Bytes → Value → Type 0
HasColumns names (value.Table columns) = columns_there columns names ≡ true
HasColumns names _ = ⊥

-- A row has a field for each column. A table without columns has no rows, since an empty line is a row of one field.
abbrev pub is_row : List Column → Row → Bool
is_row columns row = length row == length columns && not (length row == 0)

abbrev pub Holds : List Row → Value → Type 0
Holds rows (value.Table columns) = list_all (is_row columns) rows ≡ true
Holds rows _ = ⊥

abbrev pub Counts : ℤ → Value → Type 0
Counts n (value.Sequence s) = within s.min s.max n ≡ true
Counts n _ = ⊥

abbrev pub IsIndexOn : QName → Value → Type 0
IsIndexOn q (value.IndexOf table) = table ≡ q
IsIndexOn q _ = ⊥

abbrev pub Meets : Asked → Value → Type 0
Meets there v = Unit {0}
Meets ownable v = is_ownable v ≡ true
Meets (takes grants) v = HasRights grants (rights_of v)
Meets (other_owner role) v = IsOther role v
Meets (comes_to q end) v = end_of q v ≡ Some end
Meets (has_columns names) v = HasColumns names v
Meets (holds rows) v = Holds rows v
Meets (counts n) v = Counts n v
Meets a_sequence v = is_sequence v ≡ true
Meets a_view v = is_view v ≡ true
Meets (index_on q) v = IsIndexOn q v

-- nothing is met by what isn't there
abbrev pub Passes : Option Value → Asked → Type 0
Passes (Some v) ask = Meets ask v
Passes None ask = ⊥
