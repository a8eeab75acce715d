-- When the rows of pg_class, pg_attribute, pg_attrdef, pg_sequence, pg_index and pg_rewrite stand for the relations of a
-- catalogue by names.
use Rattle.std.specs.Prelude.{◌≡◌, ℕ, ℤ, Bool, List, Option, Some, None}
use Rattle.std.specs.FinMap.{get}
use Rattle.std.specs.List.{slice_get}
use Rattle.acl_text.specs.declared.list.AclItem.{AclItem}
use Rattle.cat_rows.specs.declared.relations.ClassRow.{ClassRow}
use Rattle.cat_rows.specs.declared.relations.AttributeRow.{AttributeRow}
use Rattle.cat_rows.specs.declared.relations.AttrdefRow.{AttrdefRow}
use Rattle.cat_rows.specs.declared.relations.IndexRow.{IndexRow}
use Rattle.cat_rows.specs.declared.relations.RewriteRow.{RewriteRow}
use Rattle.cat_rows.specs.declared.sequences.SequenceRow.{SequenceRow}
use Rattle.cat_model.specs.declared.object.QName.{QName}
use Rattle.cat_model.specs.declared.object.Object.TheVariants as object
use Rattle.cat_model.specs.declared.key.Key.TheVariants as key
use Rattle.cat_model.specs.declared.value.Value.{Value}
use Rattle.cat_model.specs.declared.value.Value.TheVariants as value
use Rattle.cat_model.specs.declared.value.Column.{Column}
use Rattle.cat_model.specs.declared.value.Index.{Index}
use Rattle.cat_model.specs.declared.value.Sequence.{Sequence}
use Rattle.cat_model.specs.KeyEffects.{index_path}
use Rattle.cat_model.specs.Values.{Bytes, Named, Grants}
use Rattle.cat_names.specs.declared.rights.GrantKind.{GrantKind}
use Rattle.cat_names.specs.declared.rights.GrantKind.TheVariants as on
use Rattle.row_texts.specs.DefaultTexts.{default_said}
use Rattle.row_texts.specs.IndexTexts.{index_said}
use Rattle.row_texts.specs.SequenceTypes.{sequence_kind}
use Rattle.row_texts.specs.TypeTexts.{type_named}
use Rattle.row_texts.specs.ViewTexts.{view_body}
use Rattle.well_formed.specs.Sequences.{numbers}
use Rattle.named_tables.specs.Oids.{Oids}
use Rattle.named_tables.specs.Rights.{IsAcl}
use Rattle.named_objects.specs.Oids.{ObjectOids, type_oid}

-- ---- relations

pub record NamedRelation : Type 0 where
  pub path : QName
  pub relation : Value

abbrev pub IsRelation : Named → NamedRelation → Type 0
IsRelation named r = get named (key.Rel r.path) ≡ Some r.relation

-- the owner and the rights of a relation that has an owner
pub record IsOwned (named : Named) (oids : Oids) (kind : GrantKind) (q : QName) (relowner : ℕ) (relacl : Option (List AclItem)) : Type 0 where
  pub role : Bytes
  pub grants : Grants
  pub owner_there : get named (key.Owner (object.Relation q)) ≡ Some (value.Owner role)
  pub grants_there : get named (key.Acl (object.Relation q)) ≡ Some (value.Grants grants)
  pub owner : relowner ≡ oids (key.Role role)
  pub rights : IsAcl kind role grants relacl

-- an index has the owner of its table, and no rights
pub record IsOfTable (named : Named) (oids : Oids) (table : QName) (relowner : ℕ) (relacl : Option (List AclItem)) : Type 0 where
  pub role : Bytes
  pub owner_there : get named (key.Owner (object.Relation table)) ≡ Some (value.Owner role)
  pub owner : relowner ≡ oids (key.Role role)
  pub no_rights : relacl ≡ None

-- by its letter, with its owner and its rights
abbrev pub IsRowOfKind : Named → Oids → QName → Value → ClassRow → Type 0
IsRowOfKind named oids q (value.Table columns) row = (row.relkind ≡ 114) × IsOwned named oids on.Table q row.relowner row.relacl
IsRowOfKind named oids q value.View row = (row.relkind ≡ 118) × IsOwned named oids on.Table q row.relowner row.relacl
IsRowOfKind named oids q (value.Sequence s) row = (row.relkind ≡ 83) × IsOwned named oids on.Sequence q row.relowner row.relacl
IsRowOfKind named oids q (value.IndexOf table) row = (row.relkind ≡ 105) × IsOfTable named oids table row.relowner row.relacl
IsRowOfKind named oids q _ row = ⊥

pub record IsRelationRow (named : Named) (oids : Oids) (r : NamedRelation) (row : ClassRow) : Type 0 where
  pub oid : row.oid ≡ oids (key.Rel r.path)
  pub name : row.relname ≡ r.path.name
  pub schema : row.relnamespace ≡ oids (key.Schema r.path.schema)
  pub permanent : row.relpersistence ≡ 112
  pub kind : IsRowOfKind named oids r.path r.relation row

-- ---- columns of tables

pub record NamedColumn : Type 0 where
  pub table : QName
  pub columns : List Column
  pub place : ℕ
  pub column : Column

pub record IsColumn (named : Named) (c : NamedColumn) : Type 0 where
  pub there : get named (key.Rel c.table) ≡ Some (value.Table c.columns)
  pub at : slice_get c.columns c.place ≡ Some c.column

pub record IsColumnRow (oids : ObjectOids) (c : NamedColumn) (row : AttributeRow) : Type 0 where
  pub relation : row.attrelid ≡ oids.of (key.Rel c.table)
  pub number : row.attnum ≡ oids.number c.table c.column.name
  pub name : row.attname ≡ c.column.name
  pub type : row.atttypid ≡ type_oid oids.of c.column.type_name
  pub type_text : type_named row.typtext ≡ Some c.column.type_name
  pub not_null : row.attnotnull ≡ c.column.not_null

-- ---- defaults of columns

pub record NamedDefault : Type 0 where
  pub table : QName
  pub column : Bytes
  pub text : Bytes

abbrev pub IsDefault : Named → NamedDefault → Type 0
IsDefault named d = get named (key.Default d.table d.column) ≡ Some (value.DefaultText d.text)

pub record IsDefaultRow (oids : ObjectOids) (d : NamedDefault) (row : AttrdefRow) : Type 0 where
  pub oid : row.oid ≡ oids.of (key.Default d.table d.column)
  pub relation : row.adrelid ≡ oids.of (key.Rel d.table)
  pub number : row.adnum ≡ oids.number d.table d.column
  pub expression : row.adexpr ≡ d.text
  pub said : default_said row.adexpr ≡ Some d.text

-- ---- sequences

-- with the table and the column that own it, if one does
pub record NamedSequence : Type 0 where
  pub path : QName
  pub sequence : Sequence
  pub last : ℤ
  pub called : Bool

pub record IsSequence (named : Named) (s : NamedSequence) : Type 0 where
  pub there : get named (key.Rel s.path) ≡ Some (value.Sequence s.sequence)
  pub value : get named (key.SeqVal s.path) ≡ Some (value.SequenceValue s.last s.called)

-- 0 where no column owns it
abbrev pub IsOwnerOf : ObjectOids → Option Value → ℕ → ℤ → Type 0
IsOwnerOf oids (Some (value.OwnedBy table column)) ownrel owncol = (ownrel ≡ oids.of (key.Rel table)) × (owncol ≡ oids.number table column)
IsOwnerOf oids None ownrel owncol = ownrel ≡ 0
IsOwnerOf oids _ ownrel owncol = ⊥

pub record IsSequenceRow (named : Named) (oids : ObjectOids) (s : NamedSequence) (row : SequenceRow) : Type 0 where
  pub relation : row.seqrelid ≡ oids.of (key.Rel s.path)
  pub type : sequence_kind row.seqtype ≡ Some s.sequence.kind
  pub numbers : numbers s.sequence.kind row ≡ s.sequence
  pub last : row.last_value ≡ s.last
  pub called : row.is_called ≡ s.called
  pub owner : IsOwnerOf oids (get named (key.OwnedBy s.path)) row.ownrel row.owncol

-- ---- indexes

pub record NamedIndex : Type 0 where
  pub table : QName
  pub name : Bytes
  pub index : Index

abbrev pub IsIndex : Named → NamedIndex → Type 0
IsIndex named i = get named (key.Index i.table i.name) ≡ Some (value.Index i.index)

pub record IsIndexRow (oids : Oids) (i : NamedIndex) (row : IndexRow) : Type 0 where
  pub relation : row.indexrelid ≡ oids (key.Rel (index_path i.table i.name))
  pub table : row.indrelid ≡ oids (key.Rel i.table)
  pub unique : row.indisunique ≡ i.index.unique
  pub said : index_said row.indexdef ≡ Some (record { unique = i.index.unique; name = i.name; table = i.table; method = i.index.method; rest = i.index.text })

-- ---- bodies of views

pub record NamedBody : Type 0 where
  pub view : QName
  pub body : Bytes

abbrev pub IsBody : Named → NamedBody → Type 0
IsBody named b = get named (key.Body b.view) ≡ Some (value.Body b.body)

pub record IsBodyRow (oids : Oids) (b : NamedBody) (row : RewriteRow) : Type 0 where
  pub oid : row.oid ≡ oids (key.Body b.view)
  pub view : row.ev_class ≡ oids (key.Rel b.view)
  pub said : view_body row.viewdef ≡ Some b.body
