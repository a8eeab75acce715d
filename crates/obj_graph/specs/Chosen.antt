-- What a selection chooses by its patterns, and the pattern that is refused since it hits nothing.
-- A schema is tried as a name in the schema public, and a table, view or sequence by its path.
use Rattle.std.specs.Prelude.{ℕ, Bool, true, false, not, ◌&&◌, ◌||◌, List, [], ◌∷◌, Option, Some, None, option_map, codes, if◌then◌else◌}
use Rattle.std.specs.List.{find, list_any, position}
use Rattle.std.specs.Option.{option_and_then}
use Rattle.cat_rows.specs.declared.catalogue.Catalogue.{Catalogue}
use Rattle.cat_rows.specs.declared.relations.ClassRow.{ClassRow}
use Rattle.cat_model.specs.declared.object.QName.{QName}
use Rattle.cat_model.specs.Values.{Bytes}
use Rattle.cat_names.specs.Kinds.{relation_kind, class_of, is_sequence, is_index}
use Rattle.cat_names.specs.Lookups.{same_oid}
use Rattle.cat_book.specs.Paths.{schema_of, class_path}
use Rattle.patterns.specs.Parts.{Parts}
use Rattle.patterns.specs.Matching.{hits}
use Rattle.obj_graph.specs.declared.select.Select.{Select}
use Rattle.obj_graph.specs.declared.select.SelectFault.{SelectFault}
use Rattle.obj_graph.specs.declared.select.SelectFault.TheVariants.{NoSchemas, NoTables}

-- ---- patterns

abbrev pub are_none : List Parts → Bool
are_none [] = true
are_none (p ∷ ps) = false

-- whether one of these patterns hits a name in a schema, or a path
abbrev pub is_hit : List Parts → Bytes → Bytes → Bool
is_hit patterns schema name = list_any (λ p. hits p schema name) patterns

abbrev pub hits_path : Parts → Option QName → Bool
hits_path pattern None = false
hits_path pattern (Some q) = hits pattern q.schema q.name

abbrev pub is_path_hit : List Parts → Option QName → Bool
is_path_hit patterns path = list_any (λ p. hits_path p path) patterns

-- ---- schemas and what stands in them

-- Where tables are named, no schema is chosen; else those that are named, or all where none is, without those that are
-- taken away.
abbrev pub is_schema_chosen : Select → Bytes → Bool
is_schema_chosen select name =
    are_none select.tables
    && ((are_none select.schemas || is_hit select.schemas (codes "public") name)
    && not (is_hit select.not_schemas (codes "public") name))

-- whether there is a schema, and it is chosen
abbrev pub is_in_chosen : Select → Option Bytes → Bool
is_in_chosen select None = false
is_in_chosen select (Some schema) = is_schema_chosen select schema

-- the name of the schema of an oid
abbrev pub schema_name : Catalogue → ℕ → Option Bytes
schema_name cat oid = option_map (λ s. s.nspname) (schema_of cat.pg_namespace oid)

-- ---- tables, views and sequences

-- a path that is named, or stands in a chosen schema where no table is named, and isn't taken away
abbrev pub is_path_chosen : Select → Option QName → Bool
is_path_chosen select None = false
is_path_chosen select (Some q) =
    (if are_none select.tables then is_schema_chosen select q.schema else is_hit select.tables q.schema q.name)
    && not (is_hit select.not_tables q.schema q.name)

abbrev pub is_named : Catalogue → Select → ClassRow → Bool
is_named cat select row = is_path_chosen select (class_path cat.pg_namespace row)

abbrev pub is_named_there : Catalogue → Select → Option ClassRow → Bool
is_named_there cat select None = false
is_named_there cat select (Some row) = is_named cat select row

-- the table whose column owns a sequence
abbrev pub owner_of : Catalogue → ℕ → Option ClassRow
owner_of cat oid = option_and_then (λ s. class_of cat.pg_class s.ownrel) (find (λ s. same_oid oid s.seqrelid) cat.pg_sequence)

-- a sequence follows the table whose column owns it, whatever the patterns say of the sequence itself
abbrev pub is_relation_chosen : Catalogue → Select → ClassRow → Bool
is_relation_chosen cat select row =
    is_named cat select row
    || (is_sequence (Some (relation_kind row.relkind)) && is_named_there cat select (owner_of cat row.oid))

-- whether the relation of an oid is chosen
abbrev pub is_chosen_there : Catalogue → Select → Option ClassRow → Bool
is_chosen_there cat select None = false
is_chosen_there cat select (Some row) = is_relation_chosen cat select row

abbrev pub is_oid_chosen : Catalogue → Select → ℕ → Bool
is_oid_chosen cat select oid = is_chosen_there cat select (class_of cat.pg_class oid)

-- ---- patterns that hit nothing

-- whether a pattern hits a schema
abbrev pub hits_schema : Catalogue → Parts → Bool
hits_schema cat pattern = list_any (λ s. hits pattern (codes "public") s.nspname) cat.pg_namespace

-- whether it hits a table, view or sequence
abbrev pub hits_row : Catalogue → Parts → ClassRow → Bool
hits_row cat pattern row =
    not (is_index (Some (relation_kind row.relkind))) && hits_path pattern (class_path cat.pg_namespace row)

abbrev pub hits_relation : Catalogue → Parts → Bool
hits_relation cat pattern = list_any (hits_row cat pattern) cat.pg_class

-- The place of the first pattern that hits nothing, where each has to hit; else the first, where there are patterns and
-- none of them hits.
abbrev pub missing : Bool → (Parts → Bool) → List Parts → Option ℕ
missing strict hits_some patterns =
    if strict then position (λ p. not (hits_some p)) patterns
    else if are_none patterns || list_any hits_some patterns then None
    else Some 0

abbrev pub or_missing : Option SelectFault → Option SelectFault → Option SelectFault
or_missing (Some fault) later = Some fault
or_missing None later = later

-- schemas are tried first; patterns that take away may hit nothing
unfoldable pub select_fault : Catalogue → Select → Option SelectFault
select_fault cat select =
    or_missing (option_map NoSchemas (missing select.strict (hits_schema cat) select.schemas))
    (option_map NoTables (missing select.strict (hits_relation cat) select.tables))
