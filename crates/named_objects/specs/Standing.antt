-- When fifteen tables and the rows of tables stand for a catalogue by names, which began as some opening.
use Rattle.std.specs.Prelude.{◌≡◌, List, Some}
use Rattle.std.specs.FinMap.{get}
use Rattle.std.specs.List.{filter}
use Rattle.cat_rows.specs.declared.catalogue.Catalogue.{Catalogue}
use Rattle.cat_rows.specs.declared.notes.DependRow.{DependRow}
use Rattle.cat_model.specs.declared.object.QName.{QName}
use Rattle.cat_model.specs.declared.key.Key.TheVariants as key
use Rattle.cat_model.specs.declared.value.Value.TheVariants as value
use Rattle.cat_model.specs.Values.{Bytes, Named, Row}
use Rattle.cat_names.specs.Kinds.{kind_of, is_table}
use Rattle.cat_naming.specs.Relations.{RowsByOid}
use Rattle.named_tables.specs.Cluster.{StandsFor}
use Rattle.named_tables.specs.Standing.{AreRowsOf}
use Rattle.named_objects.specs.Oids.{ObjectOids}
use Rattle.named_objects.specs.Types.{IsType, IsTypeRow, IsLabel, label_row}
use Rattle.named_objects.specs.Relations.{IsRelation, IsRelationRow, IsColumn, IsColumnRow, IsDefault, IsDefaultRow, IsSequence, IsSequenceRow, IsIndex, IsIndexRow, IsBody, IsBodyRow}
use Rattle.named_objects.specs.Constraints.{IsConstrained, IsConstrainedRow, IsComment, IsCommentRow}

-- the columns of views are kept beside those of tables, and stand for nothing
pub record AllStandFor (named : Named) (oids : ObjectOids) (current : Bytes) (depends : List DependRow) (cat : Catalogue) (rows : RowsByOid) : Type 0 where
  pub cluster : StandsFor named oids.of current cat
  pub types : AreRowsOf (IsType named) (IsTypeRow oids.of) cat.pg_type
  pub labels : AreRowsOf (IsLabel named) (λ l row. row ≡ label_row oids l) cat.pg_enum
  pub relations : AreRowsOf (IsRelation named) (IsRelationRow named oids.of) cat.pg_class
  pub columns : AreRowsOf (IsColumn named) (IsColumnRow oids) (filter (λ a. is_table (kind_of cat.pg_class a.attrelid)) cat.pg_attribute)
  pub defaults : AreRowsOf (IsDefault named) (IsDefaultRow oids) cat.pg_attrdef
  pub constraints : AreRowsOf (IsConstrained named) (IsConstrainedRow oids) cat.pg_constraint
  pub indexes : AreRowsOf (IsIndex named) (IsIndexRow oids.of) cat.pg_index
  pub sequences : AreRowsOf (IsSequence named) (IsSequenceRow named oids) cat.pg_sequence
  pub bodies : AreRowsOf (IsBody named) (IsBodyRow oids.of) cat.pg_rewrite
  pub comments : AreRowsOf (IsComment named) (IsCommentRow oids) cat.pg_description
  pub dependencies : cat.pg_depend ≡ depends
  pub rows_held : (q : QName) (held : List Row) → get named (key.Rows q) ≡ Some (value.Rows held) → rows (oids.of (key.Rel q)) ≡ held
