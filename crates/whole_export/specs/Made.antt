-- The fifteen tables that are made of a catalogue's entries, with what they keep of the opening, and when they stand for it.
use Rattle.std.specs.Prelude.{◌≡◌, List, ◌++◌, not}
use Rattle.std.specs.List.{AllByRecursion, filter}
use Rattle.cat_rows.specs.declared.catalogue.Catalogue.{Catalogue}
use Rattle.cat_rows.specs.declared.notes.DependRow.{DependRow}
use Rattle.cat_rows.specs.declared.relations.AttributeRow.{AttributeRow}
use Rattle.cat_rows.specs.declared.relations.ClassRow.{ClassRow}
use Rattle.cat_rows.specs.declared.types.EnumRow.{EnumRow}
use Rattle.cat_rows.specs.declared.types.TypeRow.{TypeRow}
use Rattle.cat_model.specs.Values.{Bytes, Named}
use Rattle.cat_names.specs.Kinds.{is_table, kind_of}
use Rattle.cat_names.specs.Naming.{Entry}
use Rattle.cat_naming.specs.Relations.{RowsByOid}
use Rattle.cat_sound.specs.Itself.{Itself}
use Rattle.column_numbers.specs.Numbers.{NumbersOf, number_of}
use Rattle.entry_ids.specs.Ids.{of_keys}
use Rattle.entry_ids.specs.Oids.{ObjectOids, AreNumbers, AreCheckOids, AreLabelOids}
use Rattle.entry_ids.specs.Standing.{AllStandFor}
use Rattle.named_tables.specs.Oids.{AreOids}
use Rattle.object_ids.specs.Ids.{IdsOf}
use Rattle.object_loops.specs.Oids.{with_numbers}
use Rattle.object_loops.specs.Owning.{AreOwned}
use Rattle.sound_texts.specs.Grammar.{grammar}
use Rattle.whole_export.specs.Tables.{AreCluster, AreObjects, AreParts}
use Rattle.whole_export.specs.declared.cluster.Cluster.{Cluster}
use Rattle.whole_export.specs.declared.objects.Objects.{Objects}
use Rattle.whole_export.specs.declared.parts.Parts.{Parts}

-- those columns that are of no table
abbrev pub other_columns : List ClassRow → List AttributeRow → List AttributeRow
other_columns classes columns = filter (λ a. not (is_table (kind_of classes a.attrelid))) columns

-- these tables, with these columns and dependencies
abbrev pub catalogue_with : Cluster → List TypeRow → List EnumRow → List ClassRow → Parts → List AttributeRow → List DependRow → Catalogue
catalogue_with cluster types labels relations parts columns depends = record {
  pg_authid = cluster.roles;
  pg_auth_members = cluster.members;
  pg_database = cluster.databases;
  pg_namespace = cluster.schemas;
  pg_type = types;
  pg_enum = labels;
  pg_class = relations;
  pg_attribute = columns;
  pg_attrdef = parts.defaults;
  pg_constraint = parts.constraints;
  pg_index = parts.indexes;
  pg_sequence = parts.sequences;
  pg_rewrite = parts.bodies;
  pg_description = parts.comments;
  pg_depend = depends;
}

-- with what is kept of the opening
abbrev pub joined_with : Cluster → Objects → Parts → Catalogue → Catalogue
joined_with cluster objects parts opening =
    catalogue_with cluster objects.types objects.labels objects.relations parts (objects.columns ++ other_columns objects.relations opening.pg_attribute) opening.pg_depend

-- tables made of these entries, where each is in order
pub record AreMade (named : Named) (oids : ObjectOids) (current : Bytes) (opening : Catalogue) (es : List Entry) (cat : Catalogue) : Type 0 where
  pub columns : List AttributeRow
  pub cluster : AreCluster named oids.of current es cat.pg_authid cat.pg_auth_members cat.pg_database cat.pg_namespace
  pub objects : AllByRecursion (λ e. Itself grammar e.0 e.1) es → AreObjects named oids es cat.pg_type cat.pg_enum cat.pg_class columns
  pub parts : AllByRecursion (λ e. Itself grammar e.0 e.1) es → AreOwned named → AreParts named oids es cat.pg_attrdef cat.pg_constraint cat.pg_index cat.pg_sequence cat.pg_rewrite cat.pg_description
  pub attributes : cat.pg_attribute ≡ columns ++ other_columns cat.pg_class opening.pg_attribute
  pub dependencies : cat.pg_depend ≡ opening.pg_depend

-- the tables and rows of tables stand for the catalogue, whose oids and numbers are as they need to be, and have the other
-- columns of the opening
pub record Stands (named : Named) (ids : IdsOf) (numbers : NumbersOf) (current : Bytes) (opening cat : Catalogue) (rows : RowsByOid) : Type 0 where
  pub oids : AreOids named (of_keys ids)
  pub rising : AreNumbers named (number_of numbers)
  pub checks : AreCheckOids named (with_numbers ids numbers)
  pub labels : AreLabelOids named (with_numbers ids numbers)
  pub all : AllStandFor named (with_numbers ids numbers) current opening.pg_depend cat rows
  pub others : other_columns cat.pg_class cat.pg_attribute ≡ other_columns cat.pg_class opening.pg_attribute
