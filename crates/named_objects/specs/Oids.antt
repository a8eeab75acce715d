-- The oids of objects, and the numbers of columns.
use Rattle.std.specs.Prelude.{◌≡◌, ℕ, ◌<◌, ℤ, true, false, List, Some, if◌then◌else◌}
use Rattle.std.specs.FinMap.{get}
use Rattle.std.specs.List.{slice_get}
use Rattle.std.specs.declared.cmp.Ordering.TheVariants.{Less}
use Rattle.std.specs.Ordering.{int_cmp}
use Rattle.cat_model.specs.declared.object.QName.{QName}
use Rattle.cat_model.specs.declared.key.Key.TheVariants as key
use Rattle.cat_model.specs.declared.type_name.TypeName.{TypeName}
use Rattle.cat_model.specs.declared.type_name.TypeName.TheVariants.{Words, Path}
use Rattle.cat_model.specs.declared.value.Value.TheVariants as value
use Rattle.cat_model.specs.declared.value.Value.{Value}
use Rattle.cat_model.specs.declared.value.Column.{Column}
use Rattle.cat_model.specs.declared.value.Domain.{Domain}
use Rattle.cat_model.specs.References.{is_system}
use Rattle.cat_model.specs.Values.{Bytes, Named}
use Rattle.cat_names.specs.Lookups.{is_no_oid}
use Rattle.well_formed.specs.Columns.{is_column_number}
use Rattle.named_tables.specs.Oids.{Oids}

pub record ObjectOids : Type 0 where
  -- of objects that have a key
  pub of : Oids
  -- of a label of an enum, by its place; of a check of a domain, by its name
  pub label : QName → ℕ → ℕ
  pub check : QName → Bytes → ℕ
  -- the number of a table's column
  pub number : QName → Bytes → ℤ

-- the oid of a type; 0 for one that has no row: words, and a type of the system's own
abbrev pub type_oid : Oids → TypeName → ℕ
type_oid oids (Words text) = 0
type_oid oids (Path q) = if is_system q.schema then 0 else oids (key.UserType q)

-- columns are numbered from 1 up, rising in their order, with or without gaps
pub record AreNumbers (named : Named) (number : QName → Bytes → ℤ) : Type 0 where
  pub rises : (q : QName) (columns : List Column) (i j : ℕ) (c d : Column) → get named (key.Rel q) ≡ Some (value.Table columns) → i < j → slice_get columns i ≡ Some c → slice_get columns j ≡ Some d → int_cmp (number q c.name) (number q d.name) ≡ Less
  pub from_one : (q : QName) (columns : List Column) (i : ℕ) (c : Column) → get named (key.Rel q) ≡ Some (value.Table columns) → slice_get columns i ≡ Some c → is_column_number (number q c.name) ≡ true

-- the oids of domains' checks are their own among those of all constraints, and none is 0
pub record AreCheckOids (named : Named) (oids : ObjectOids) : Type 0 where
  pub apart : (p q : QName) (d e : Domain) (m n one two : Bytes) → get named (key.UserType p) ≡ Some (value.Domain d) → get named (key.UserType q) ≡ Some (value.Domain e) → get d.checks m ≡ Some one → get e.checks n ≡ Some two → oids.check p m ≡ oids.check q n → (p ≡ q) × (m ≡ n)
  pub of_no_table : (p : QName) (d : Domain) (m text : Bytes) (q : QName) (n : Bytes) (v : Value) → get named (key.UserType p) ≡ Some (value.Domain d) → get d.checks m ≡ Some text → get named (key.Con q n) ≡ Some v → oids.check p m ≡ oids.of (key.Con q n) → ⊥
  pub some : (p : QName) (d : Domain) (m text : Bytes) → get named (key.UserType p) ≡ Some (value.Domain d) → get d.checks m ≡ Some text → is_no_oid (oids.check p m) ≡ false

-- two labels don't have the same oid, and none has 0
pub record AreLabelOids (named : Named) (oids : ObjectOids) : Type 0 where
  pub apart : (p q : QName) (ls ms : List Bytes) (i j : ℕ) (l m : Bytes) → get named (key.UserType p) ≡ Some (value.Enum ls) → get named (key.UserType q) ≡ Some (value.Enum ms) → slice_get ls i ≡ Some l → slice_get ms j ≡ Some m → oids.label p i ≡ oids.label q j → (p ≡ q) × (i ≡ j)
  pub some : (p : QName) (ls : List Bytes) (i : ℕ) (l : Bytes) → get named (key.UserType p) ≡ Some (value.Enum ls) → slice_get ls i ≡ Some l → is_no_oid (oids.label p i) ≡ false
