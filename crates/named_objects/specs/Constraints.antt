-- When the rows of pg_constraint and pg_description stand for the constraints, the checks of domains and the comments of a
-- catalogue by names.
use Rattle.std.specs.Prelude.{◌≡◌, ℕ, pos, ℤ, List, Option, Some, None}
use Rattle.std.specs.Option.{option_and_then}
use Rattle.std.specs.FinMap.{get}
use Rattle.cat_rows.specs.declared.constraints.ConstraintRow.{ConstraintRow}
use Rattle.cat_rows.specs.declared.notes.DescriptionRow.{DescriptionRow}
use Rattle.cat_model.specs.declared.object.QName.{QName}
use Rattle.cat_model.specs.declared.object.Object.{Object}
use Rattle.cat_model.specs.declared.object.Object.TheVariants as object
use Rattle.cat_model.specs.declared.constraint.ConstraintKind.{ConstraintKind}
use Rattle.cat_model.specs.declared.constraint.ConstraintKind.TheVariants as kinds
use Rattle.cat_model.specs.declared.key.Key.TheVariants as key
use Rattle.cat_model.specs.declared.value.Value.TheVariants as value
use Rattle.cat_model.specs.declared.value.Constraint.{Constraint}
use Rattle.cat_model.specs.declared.value.Domain.{Domain}
use Rattle.cat_model.specs.KeyEffects.{index_path}
use Rattle.cat_model.specs.Values.{Bytes, Named}
use Rattle.constraint_table.specs.Said.{statement_said}
use Rattle.cat_naming.specs.Constraints.{constraint_value}
use Rattle.cat_naming.specs.Types.{check_said}
use Rattle.named_tables.specs.Oids.{Oids}
use Rattle.named_objects.specs.Oids.{ObjectOids}

-- ---- constraints of tables, and checks of domains

pub record NamedConstraint : Type 0 where
  pub table : QName
  pub name : Bytes
  pub constraint : Constraint

abbrev pub IsConstraint : Named → NamedConstraint → Type 0
IsConstraint named c = get named (key.Con c.table c.name) ≡ Some (value.Constraint c.constraint)

pub record NamedCheck : Type 0 where
  pub path : QName
  pub domain : Domain
  pub name : Bytes
  pub text : Bytes

pub record IsCheck (named : Named) (c : NamedCheck) : Type 0 where
  pub there : get named (key.UserType c.path) ≡ Some (value.Domain c.domain)
  pub at : get c.domain.checks c.name ≡ Some c.text

abbrev pub letter_of : ConstraintKind → ℕ
letter_of kinds.Primary = 112
letter_of kinds.Unique = 117
letter_of kinds.Foreign = 102
letter_of kinds.Check = 99

-- the index of a key, which lies in its table's schema; 0 for any other constraint
abbrev pub index_of : Oids → NamedConstraint → ConstraintKind → ℕ
index_of oids c kinds.Primary = oids (key.Rel (index_path c.table c.name))
index_of oids c kinds.Unique = oids (key.Rel (index_path c.table c.name))
index_of oids c _ = 0

-- the parent of a foreign key; 0 for any other constraint
abbrev pub parent_oid : Oids → Option (QName × List Bytes) → ℕ
parent_oid oids None = 0
parent_oid oids (Some (parent, names)) = oids (key.Rel parent)

pub record IsConstraintRow (oids : Oids) (c : NamedConstraint) (row : ConstraintRow) : Type 0 where
  pub oid : row.oid ≡ oids (key.Con c.table c.name)
  pub name : row.conname ≡ c.name
  pub letter : row.contype ≡ letter_of c.constraint.kind
  pub table : row.conrelid ≡ oids (key.Rel c.table)
  pub no_domain : row.contypid ≡ 0
  pub index : row.conindid ≡ index_of oids c c.constraint.kind
  pub parent : row.confrelid ≡ parent_oid oids c.constraint.parent
  pub said : option_and_then constraint_value (statement_said row.condef) ≡ Some (value.Constraint c.constraint)

pub record IsCheckRow (oids : ObjectOids) (c : NamedCheck) (row : ConstraintRow) : Type 0 where
  pub oid : row.oid ≡ oids.check c.path c.name
  pub name : row.conname ≡ c.name
  pub letter : row.contype ≡ 99
  pub no_table : row.conrelid ≡ 0
  pub domain : row.contypid ≡ oids.of (key.UserType c.path)
  pub no_index : row.conindid ≡ 0
  pub no_parent : row.confrelid ≡ 0
  pub said : option_and_then check_said (statement_said row.condef) ≡ Some c.text

pub data Constrained : Type 0 where
  of_table : NamedConstraint → Constrained
  of_domain : NamedCheck → Constrained

abbrev pub IsConstrained : Named → Constrained → Type 0
IsConstrained named (of_table c) = IsConstraint named c
IsConstrained named (of_domain c) = IsCheck named c

abbrev pub IsConstrainedRow : ObjectOids → Constrained → ConstraintRow → Type 0
IsConstrainedRow oids (of_table c) row = IsConstraintRow oids.of c row
IsConstrainedRow oids (of_domain c) row = IsCheckRow oids c row

-- ---- comments

pub record NamedComment : Type 0 where
  pub object : Object
  pub text : Bytes

abbrev pub IsComment : Named → NamedComment → Type 0
IsComment named c = get named (key.Comment c.object) ≡ Some (value.Comment c.text)

-- the system table of an object's row, the row's oid, and the number of the column
pub record IsPlace (row : DescriptionRow) (table oid : ℕ) (number : ℤ) : Type 0 where
  pub in_table : row.classoid ≡ table
  pub of_oid : row.objoid ≡ oid
  pub of_number : row.objsubid ≡ number

abbrev pub IsPlaceOf : ObjectOids → Object → DescriptionRow → Type 0
IsPlaceOf oids (object.Schema name) row = IsPlace row 2615 (oids.of (key.Schema name)) (pos 0)
IsPlaceOf oids (object.Type q) row = IsPlace row 1247 (oids.of (key.UserType q)) (pos 0)
IsPlaceOf oids (object.Relation q) row = IsPlace row 1259 (oids.of (key.Rel q)) (pos 0)
IsPlaceOf oids (object.Column q column) row = IsPlace row 1259 (oids.of (key.Rel q)) (oids.number q column)
IsPlaceOf oids (object.Constraint q name) row = IsPlace row 2606 (oids.of (key.Con q name)) (pos 0)
IsPlaceOf oids (object.Database name) row = ⊥

pub record IsCommentRow (oids : ObjectOids) (c : NamedComment) (row : DescriptionRow) : Type 0 where
  pub place : IsPlaceOf oids c.object row
  pub text : row.description ≡ c.text
