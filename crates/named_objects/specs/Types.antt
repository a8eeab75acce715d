-- When the rows of pg_type and pg_enum stand for the types of a catalogue by names.
use Rattle.std.specs.Prelude.{◌≡◌, ℕ, ◌+◌, pos, List, Option, Some, None}
use Rattle.std.specs.FinMap.{get}
use Rattle.std.specs.List.{slice_get}
use Rattle.cat_rows.specs.declared.types.TypeRow.{TypeRow}
use Rattle.cat_rows.specs.declared.types.EnumRow.{EnumRow}
use Rattle.cat_model.specs.declared.object.QName.{QName}
use Rattle.cat_model.specs.declared.object.Object.TheVariants as object
use Rattle.cat_model.specs.declared.key.Key.TheVariants as key
use Rattle.cat_model.specs.declared.value.Value.{Value}
use Rattle.cat_model.specs.declared.value.Value.TheVariants as value
use Rattle.cat_model.specs.declared.value.Domain.{Domain}
use Rattle.cat_model.specs.Values.{Bytes, Named, Grants}
use Rattle.cat_names.specs.declared.rights.GrantKind.TheVariants as on
use Rattle.row_texts.specs.DefaultTexts.{default_said}
use Rattle.row_texts.specs.TypeTexts.{type_named}
use Rattle.named_tables.specs.Oids.{Oids}
use Rattle.named_tables.specs.Rights.{IsAcl}
use Rattle.named_objects.specs.Oids.{ObjectOids, type_oid}

-- ---- types

pub record NamedType : Type 0 where
  pub path : QName
  pub type : Value
  pub owner : Bytes
  pub grants : Grants

pub record IsType (named : Named) (t : NamedType) : Type 0 where
  pub there : get named (key.UserType t.path) ≡ Some t.type
  pub owner : get named (key.Owner (object.Type t.path)) ≡ Some (value.Owner t.owner)
  pub grants : get named (key.Acl (object.Type t.path)) ≡ Some (value.Grants t.grants)

-- the text of a default is its expression
abbrev pub IsDefaultText : Option Bytes → Option Bytes → Type 0
IsDefaultText None None = Unit {0}
IsDefaultText (Some text) (Some said) = (said ≡ text) × (default_said said ≡ Some text)
IsDefaultText _ _ = ⊥

pub record IsDomainRow (oids : Oids) (d : Domain) (row : TypeRow) : Type 0 where
  pub letter : row.typtype ≡ 100
  pub not_null : row.typnotnull ≡ d.not_null
  pub base : row.typbasetype ≡ type_oid oids d.base
  pub base_text : type_named row.basetext ≡ Some d.base
  pub default_text : IsDefaultText d.default row.typdefault

pub record IsEnumRow (row : TypeRow) : Type 0 where
  pub letter : row.typtype ≡ 101
  pub base : row.typbasetype ≡ 0

abbrev pub IsRowOfType : Oids → Value → TypeRow → Type 0
IsRowOfType oids (value.Enum labels) row = IsEnumRow row
IsRowOfType oids (value.Domain d) row = IsDomainRow oids d row
IsRowOfType oids _ row = ⊥

pub record IsTypeRow (oids : Oids) (t : NamedType) (row : TypeRow) : Type 0 where
  pub oid : row.oid ≡ oids (key.UserType t.path)
  pub name : row.typname ≡ t.path.name
  pub schema : row.typnamespace ≡ oids (key.Schema t.path.schema)
  pub owner : row.typowner ≡ oids (key.Role t.owner)
  pub rights : IsAcl on.Type t.owner t.grants row.typacl
  pub kind : IsRowOfType oids t.type row

-- ---- labels of enums

pub record NamedLabel : Type 0 where
  pub path : QName
  pub labels : List Bytes
  pub place : ℕ
  pub label : Bytes

pub record IsLabel (named : Named) (l : NamedLabel) : Type 0 where
  pub there : get named (key.UserType l.path) ≡ Some (value.Enum l.labels)
  pub at : slice_get l.labels l.place ≡ Some l.label

-- places are counted from 1
abbrev pub label_row : ObjectOids → NamedLabel → EnumRow
label_row oids l = record { oid = oids.label l.path l.place; enumtypid = oids.of (key.UserType l.path); enumpos = pos (l.place + 1); enumlabel = l.label }
