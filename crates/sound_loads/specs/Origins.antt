-- Which rows of a catalogue a key with its value stands for. It is the naming of rows read the other way round.
use Rattle.std.specs.Prelude.{◌≡◌, ◌⊎◌, false, Option, Some, None}
use Rattle.std.specs.Option.{option_and_then}
use Rattle.cat_rows.specs.declared.catalogue.Catalogue.{Catalogue}
use Rattle.cat_rows.specs.declared.roles.AuthidRow.{AuthidRow}
use Rattle.cat_rows.specs.declared.roles.AuthMembersRow.{AuthMembersRow}
use Rattle.cat_rows.specs.declared.roles.DatabaseRow.{DatabaseRow}
use Rattle.cat_rows.specs.declared.schemas.NamespaceRow.{NamespaceRow}
use Rattle.cat_rows.specs.declared.types.TypeRow.{TypeRow}
use Rattle.cat_rows.specs.declared.relations.ClassRow.{ClassRow}
use Rattle.cat_rows.specs.declared.relations.AttrdefRow.{AttrdefRow}
use Rattle.cat_rows.specs.declared.relations.IndexRow.{IndexRow}
use Rattle.cat_rows.specs.declared.relations.RewriteRow.{RewriteRow}
use Rattle.cat_rows.specs.declared.sequences.SequenceRow.{SequenceRow}
use Rattle.cat_rows.specs.declared.constraints.ConstraintRow.{ConstraintRow}
use Rattle.cat_rows.specs.declared.notes.DescriptionRow.{DescriptionRow}
use Rattle.cat_model.specs.declared.constraint.Encoding.TheVariants as encoding
use Rattle.cat_model.specs.declared.constraint.SequenceKind.{SequenceKind}
use Rattle.cat_model.specs.declared.key.Key.{Key}
use Rattle.cat_model.specs.declared.key.Key.TheVariants as key
use Rattle.cat_model.specs.declared.object.Object.{Object}
use Rattle.cat_model.specs.declared.object.Object.TheVariants as object
use Rattle.cat_model.specs.declared.object.QName.{QName}
use Rattle.cat_model.specs.declared.value.Value.{Value}
use Rattle.cat_model.specs.declared.value.Value.TheVariants as value
use Rattle.cat_model.specs.Values.{Bytes}
use Rattle.cat_names.specs.declared.relations.RelationKind.{RelationKind}
use Rattle.cat_names.specs.declared.relations.RelationKind.TheVariants.{Table, View, Sequence, Index}
use Rattle.cat_names.specs.declared.rights.GrantKind.{GrantKind}
use Rattle.cat_names.specs.declared.rights.GrantKind.TheVariants as on
use Rattle.cat_names.specs.Grants.{grants_of}
use Rattle.cat_names.specs.Kinds.{relation_kind}
use Rattle.cat_names.specs.Lookups.{role_name, is_no_oid}
use Rattle.cat_book.specs.Paths.{type_path, class_path, class_path_of}
use Rattle.row_texts.specs.DefaultTexts.{default_said}
use Rattle.row_texts.specs.IndexTexts.{index_said}
use Rattle.row_texts.specs.SequenceTypes.{sequence_kind}
use Rattle.row_texts.specs.ViewTexts.{view_body}
use Rattle.row_texts.specs.declared.index_text.IndexText.{IndexText}
use Rattle.text_tables.specs.Sequences.{numbers}
use Rattle.constraint_table.specs.Said.{statement_said}
use Rattle.cat_lookups.specs.Found.{column_name, table_of_index}
use Rattle.cat_naming.specs.Roles.{role_value, member_value}
use Rattle.cat_naming.specs.Types.{type_value}
use Rattle.cat_naming.specs.Relations.{RowsByOid, columns_of}
use Rattle.cat_naming.specs.Constraints.{constraint_value}
use Rattle.cat_naming.specs.Comments.{commented_object}
use Rattle.sound_rows.specs.Rows.{IsAmong}

module _ (cat : Catalogue) where
  -- ---- rows, by what their objects are found by

  pub record OfRole (name : Bytes) (P : AuthidRow → Type 0) : Type 0 where
    pub row : AuthidRow
    pub among : IsAmong row cat.pg_authid
    pub same : row.rolname ≡ name
    pub is : P row

  pub record OfMember (role member grantor : Bytes) (P : AuthMembersRow → Type 0) : Type 0 where
    pub row : AuthMembersRow
    pub among : IsAmong row cat.pg_auth_members
    pub of_role : role_name cat.pg_authid row.roleid ≡ Some role
    pub of_member : role_name cat.pg_authid row.member ≡ Some member
    pub by : role_name cat.pg_authid row.grantor ≡ Some grantor
    pub is : P row

  pub record OfDatabase (name : Bytes) (P : DatabaseRow → Bytes → Type 0) : Type 0 where
    pub row : DatabaseRow
    pub among : IsAmong row cat.pg_database
    pub same : row.datname ≡ name
    pub owner : Bytes
    pub owned : role_name cat.pg_authid row.datdba ≡ Some owner
    pub is : P row owner

  pub record OfSchema (name : Bytes) (P : NamespaceRow → Bytes → Type 0) : Type 0 where
    pub row : NamespaceRow
    pub among : IsAmong row cat.pg_namespace
    pub same : row.nspname ≡ name
    pub owner : Bytes
    pub owned : role_name cat.pg_authid row.nspowner ≡ Some owner
    pub is : P row owner

  pub record OfType (q : QName) (P : TypeRow → Bytes → Value → Type 0) : Type 0 where
    pub row : TypeRow
    pub among : IsAmong row cat.pg_type
    pub path : type_path cat.pg_namespace row ≡ Some q
    pub owner : Bytes
    pub owned : role_name cat.pg_authid row.typowner ≡ Some owner
    pub value : Value
    pub of : type_value cat row ≡ Some value
    pub is : P row owner value

  pub record OfClass (q : QName) (P : ClassRow → Type 0) : Type 0 where
    pub row : ClassRow
    pub among : IsAmong row cat.pg_class
    pub path : class_path cat.pg_namespace row ≡ Some q
    pub is : P row

  pub record OfSequence (q : QName) (P : SequenceRow → SequenceKind → Type 0) : Type 0 where
    pub row : SequenceRow
    pub among : IsAmong row cat.pg_sequence
    pub path : class_path_of cat row.seqrelid ≡ Some q
    pub kind : SequenceKind
    pub of : sequence_kind row.seqtype ≡ Some kind
    pub is : P row kind

  -- ---- relations, by their kinds

  -- what a relation is that isn't a sequence
  abbrev pub IsRelation : ClassRow → RelationKind → Value → Type 0
  IsRelation row Table v = value.Table (columns_of cat row.oid) ≡ v
  IsRelation row View v = value.View ≡ v
  IsRelation row Index v = (table : QName) × (option_and_then (class_path_of cat) (table_of_index cat row.oid) ≡ Some table) × (value.IndexOf table ≡ v)
  IsRelation row _ v = ⊥

  -- which kind of rights a relation has
  abbrev pub grant_kind : RelationKind → Option GrantKind
  grant_kind Table = Some on.Table
  grant_kind View = Some on.Table
  grant_kind Sequence = Some on.Sequence
  grant_kind _ = None

  pub record HasOwner (row : ClassRow) (P : GrantKind → Bytes → Type 0) : Type 0 where
    pub kind : GrantKind
    pub of_kind : grant_kind (relation_kind row.relkind) ≡ Some kind
    pub owner : Bytes
    pub owned : role_name cat.pg_authid row.relowner ≡ Some owner
    pub has : P kind owner

  pub record OfTable (rows : RowsByOid) (row : ClassRow) (v : Value) : Type 0 where
    pub of_kind : relation_kind row.relkind ≡ Table
    pub has : value.Rows (rows row.oid) ≡ v

  -- ---- what belongs to a relation

  pub record OfDefault (q : QName) (column : Bytes) (v : Value) : Type 0 where
    pub row : AttrdefRow
    pub among : IsAmong row cat.pg_attrdef
    pub path : class_path_of cat row.adrelid ≡ Some q
    pub named : column_name cat row.adrelid row.adnum ≡ Some column
    pub text : Bytes
    pub said : default_said row.adexpr ≡ Some text
    pub is : value.DefaultText text ≡ v

  pub record OfConstraint (q : QName) (name : Bytes) (v : Value) : Type 0 where
    pub row : ConstraintRow
    pub among : IsAmong row cat.pg_constraint
    pub path : class_path_of cat row.conrelid ≡ Some q
    pub same : row.conname ≡ name
    pub said : option_and_then constraint_value (statement_said row.condef) ≡ Some v

  pub record OfIndex (q : QName) (name : Bytes) (v : Value) : Type 0 where
    pub row : IndexRow
    pub among : IsAmong row cat.pg_index
    pub text : IndexText
    pub said : index_said row.indexdef ≡ Some text
    pub path : text.table ≡ q
    pub same : text.name ≡ name
    pub is : value.Index (record { method = text.method; unique = text.unique; text = text.rest }) ≡ v

  pub record OwningColumn (row : SequenceRow) (v : Value) : Type 0 where
    pub given : is_no_oid row.ownrel ≡ false
    pub table : QName
    pub path : class_path_of cat row.ownrel ≡ Some table
    pub column : Bytes
    pub named : column_name cat row.ownrel row.owncol ≡ Some column
    pub has : value.OwnedBy table column ≡ v

  pub record OfBody (q : QName) (v : Value) : Type 0 where
    pub row : RewriteRow
    pub among : IsAmong row cat.pg_rewrite
    pub path : class_path_of cat row.ev_class ≡ Some q
    pub text : Bytes
    pub said : view_body row.viewdef ≡ Some text
    pub is : value.Body text ≡ v

  pub record OfComment (o : Object) (v : Value) : Type 0 where
    pub row : DescriptionRow
    pub among : IsAmong row cat.pg_description
    pub object : commented_object cat row ≡ Some o
    pub is : value.Comment row.description ≡ v

  -- ---- owners and grants

  abbrev pub OwnerFrom : Object → Value → Type 0
  OwnerFrom (object.Schema name) v = OfSchema name (λ row owner. value.Owner owner ≡ v)
  OwnerFrom (object.Type q) v = OfType q (λ row owner is. value.Owner owner ≡ v)
  OwnerFrom (object.Relation q) v = OfClass q (λ row. HasOwner row (λ kind owner. value.Owner owner ≡ v))
  OwnerFrom (object.Database name) v = OfDatabase name (λ row owner. value.Owner owner ≡ v)
  OwnerFrom _ v = ⊥

  abbrev pub GrantsFrom : Object → Value → Type 0
  GrantsFrom (object.Schema name) v = OfSchema name (λ row owner. value.Grants (grants_of on.Schema owner row.nspacl) ≡ v)
  GrantsFrom (object.Type q) v = OfType q (λ row owner is. value.Grants (grants_of on.Type owner row.typacl) ≡ v)
  GrantsFrom (object.Relation q) v = OfClass q (λ row. HasOwner row (λ kind owner. value.Grants (grants_of kind owner row.relacl) ≡ v))
  GrantsFrom _ v = ⊥

  -- ---- all keys

  abbrev pub Origin : RowsByOid → Key → Value → Type 0
  Origin rows (key.Role name) v = OfRole name (λ row. value.Role (role_value row) ≡ v)
  Origin rows (key.Member role member grantor) v = OfMember role member grantor (λ row. value.Member (member_value row) ≡ v)
  Origin rows (key.Schema name) v = OfSchema name (λ row owner. value.Schema ≡ v)
  Origin rows (key.UserType q) v = OfType q (λ row owner is. is ≡ v)
  Origin rows (key.Rel q) v = OfClass q (λ row. IsRelation row (relation_kind row.relkind) v) ⊎ OfSequence q (λ row kind. value.Sequence (numbers kind row) ≡ v)
  Origin rows (key.Owner o) v = OwnerFrom o v
  Origin rows (key.Default q column) v = OfDefault q column v
  Origin rows (key.Con q name) v = OfConstraint q name v
  Origin rows (key.Index q name) v = OfIndex q name v
  Origin rows (key.Rows q) v = OfClass q (λ row. OfTable rows row v)
  Origin rows (key.SeqVal q) v = OfSequence q (λ row kind. value.SequenceValue row.last_value row.is_called ≡ v)
  Origin rows (key.OwnedBy q) v = OfSequence q (λ row kind. OwningColumn row v)
  Origin rows (key.Acl o) v = GrantsFrom o v
  Origin rows (key.Comment o) v = OfComment o v
  Origin rows (key.Body q) v = OfBody q v
  Origin rows (key.Database name) v = OfDatabase name (λ row owner. value.Database encoding.Utf8 ≡ v)
