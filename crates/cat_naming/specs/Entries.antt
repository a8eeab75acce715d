-- The catalogue by names that all tables stand for, with the rows of the tables: each row gives its keys and values, and
-- each oid is replaced by the path that it leads to. No oid is left. The dependencies give nothing, nor do the columns of
-- views, and the owner and the rights of an index.
use Rattle.std.specs.Prelude.{List, ◌++◌}
use Rattle.std.specs.List.{flat_map}
use Rattle.std.specs.FinMap.{from_entries}
use Rattle.cat_rows.specs.declared.catalogue.Catalogue.{Catalogue}
use Rattle.cat_model.specs.Values.{Named}
use Rattle.cat_names.specs.Naming.{Entry, cluster_entries}
use Rattle.cat_naming.specs.Types.{type_entries}
use Rattle.cat_naming.specs.Relations.{RowsByOid, class_entries, default_entries, sequence_entries, body_entries}
use Rattle.cat_naming.specs.Constraints.{constraint_entries, index_entries}
use Rattle.cat_naming.specs.Comments.{comment_entries}

-- what the tables behind pg_namespace give, in their order
abbrev pub object_entries : Catalogue → RowsByOid → List Entry
object_entries cat rows =
    flat_map (type_entries cat) cat.pg_type
    ++ flat_map (class_entries cat rows) cat.pg_class
    ++ flat_map (default_entries cat) cat.pg_attrdef
    ++ flat_map (constraint_entries cat) cat.pg_constraint
    ++ flat_map index_entries cat.pg_index
    ++ flat_map (sequence_entries cat) cat.pg_sequence
    ++ flat_map (body_entries cat) cat.pg_rewrite
    ++ flat_map (comment_entries cat) cat.pg_description

-- all entries
abbrev pub entries_of : Catalogue → RowsByOid → List Entry
entries_of cat rows = cluster_entries cat ++ object_entries cat rows

-- what a catalogue and the rows of its tables stand for
abbrev pub catalogue_named : Catalogue → RowsByOid → Named
catalogue_named cat rows = from_entries (entries_of cat rows)
