-- The tables that are made of the entries of a catalogue.
use Rattle.std.specs.Prelude.{◌≡◌, List, filter_map}
use Rattle.std.specs.List.{flat_map}
use Rattle.cat_rows.specs.declared.constraints.ConstraintRow.{ConstraintRow}
use Rattle.cat_rows.specs.declared.notes.DescriptionRow.{DescriptionRow}
use Rattle.cat_rows.specs.declared.relations.AttrdefRow.{AttrdefRow}
use Rattle.cat_rows.specs.declared.relations.AttributeRow.{AttributeRow}
use Rattle.cat_rows.specs.declared.relations.ClassRow.{ClassRow}
use Rattle.cat_rows.specs.declared.relations.IndexRow.{IndexRow}
use Rattle.cat_rows.specs.declared.relations.RewriteRow.{RewriteRow}
use Rattle.cat_rows.specs.declared.roles.AuthidRow.{AuthidRow}
use Rattle.cat_rows.specs.declared.roles.AuthMembersRow.{AuthMembersRow}
use Rattle.cat_rows.specs.declared.roles.DatabaseRow.{DatabaseRow}
use Rattle.cat_rows.specs.declared.schemas.NamespaceRow.{NamespaceRow}
use Rattle.cat_rows.specs.declared.sequences.SequenceRow.{SequenceRow}
use Rattle.cat_rows.specs.declared.types.EnumRow.{EnumRow}
use Rattle.cat_rows.specs.declared.types.TypeRow.{TypeRow}
use Rattle.cat_model.specs.Values.{Bytes, Named}
use Rattle.cat_names.specs.Naming.{Entry}
use Rattle.named_tables.specs.Cluster.{role_row, member_row, database_row, IsSchemaRow}
use Rattle.named_tables.specs.Oids.{Oids}
use Rattle.entry_ids.specs.Constraints.{IsConstrainedRow, IsCommentRow}
use Rattle.entry_ids.specs.Oids.{ObjectOids}
use Rattle.entry_ids.specs.Relations.{IsRelationRow, IsColumnRow, IsDefaultRow, IsSequenceRow, IsIndexRow, IsBodyRow}
use Rattle.entry_ids.specs.Types.{IsTypeRow, label_row}
use Rattle.map_export.specs.Making.{AreSaid}
use Rattle.map_export.specs.Things.{role_in, member_in, database_in, schema_in}
use Rattle.object_loops.specs.Parts.{default_in, index_in, body_in, comment_in, sequence_in, labels_in, columns_in, constrained_in}
use Rattle.relation_loops.specs.Wholes.{type_in, relation_in}

-- roles, memberships, databases and schemas
pub record AreCluster (named : Named) (oids : Oids) (current : Bytes) (es : List Entry) (authids : List AuthidRow) (auth_members : List AuthMembersRow) (dbs : List DatabaseRow) (namespaces : List NamespaceRow) : Type 0 where
  pub roles : AreSaid (λ r row. row ≡ role_row oids r) (filter_map role_in es) authids
  pub members : AreSaid (λ m row. row ≡ member_row oids m) (filter_map member_in es) auth_members
  pub databases : AreSaid (λ d row. row ≡ database_row oids current d) (filter_map (database_in named) es) dbs
  pub schemas : AreSaid (IsSchemaRow oids) (filter_map (schema_in named) es) namespaces

-- types, labels, relations and columns of tables
pub record AreObjects (named : Named) (oids : ObjectOids) (es : List Entry) (type_rows : List TypeRow) (enum_rows : List EnumRow) (class_rows : List ClassRow) (attribute_rows : List AttributeRow) : Type 0 where
  pub types : AreSaid (IsTypeRow oids.of) (filter_map (type_in named) es) type_rows
  pub labels : AreSaid (λ l row. row ≡ label_row oids l) (flat_map labels_in es) enum_rows
  pub relations : AreSaid (IsRelationRow named oids.of) (filter_map (relation_in named) es) class_rows
  pub columns : AreSaid (IsColumnRow oids) (flat_map columns_in es) attribute_rows

-- defaults, constraints, indexes, sequences, bodies of views, and comments
pub record AreParts (named : Named) (oids : ObjectOids) (es : List Entry) (attrdef_rows : List AttrdefRow) (constraint_rows : List ConstraintRow) (index_rows : List IndexRow) (sequence_rows : List SequenceRow) (rewrite_rows : List RewriteRow) (description_rows : List DescriptionRow) : Type 0 where
  pub defaults : AreSaid (IsDefaultRow oids) (filter_map default_in es) attrdef_rows
  pub constraints : AreSaid (IsConstrainedRow oids) (flat_map constrained_in es) constraint_rows
  pub indexes : AreSaid (IsIndexRow oids.of) (filter_map index_in es) index_rows
  pub sequences : AreSaid (IsSequenceRow named oids) (filter_map (sequence_in named) es) sequence_rows
  pub bodies : AreSaid (IsBodyRow oids.of) (filter_map body_in es) rewrite_rows
  pub comments : AreSaid (IsCommentRow oids) (filter_map comment_in es) description_rows
