-- The catalogue of a catalogue's own cells is it.
use Rattle.std.proofs.Common.{◌≡◌, List, [], ◌∷◌, map, Option, Some, refl, ap}
use Rattle.std.specs.Prelude.{filter_map}
use Rattle.cat_rows.specs.declared.cell.Cell.{Cell}
use Rattle.cat_rows.specs.declared.catalogue.Catalogue.{Catalogue}
use Rattle.cat_rows.specs.RowCells.{authid_cells, auth_members_cells, database_cells, namespace_cells, type_cells, enum_cells, class_cells, attribute_cells, attrdef_cells, constraint_cells, index_cells, sequence_cells, rewrite_cells, description_cells, depend_cells}
use Rattle.folder_io.specs.Folders.{catalogue_rows}
use Rattle.exports.specs.Cells.{authid_of, member_of, database_of, schema_of, type_of, label_of, relation_of, column_of, default_of, constraint_of, index_of, sequence_of, body_of, comment_of, dependency_of, catalogue_with}

-- rows of their cells are the rows
back : {R : Type 0} (cells : R → List Cell) (of : List Cell → Option R) → ((row : R) → of (cells row) ≡ Some row) → (rows : List R) → filter_map of (map cells rows) ≡ rows
back cells of same [] = refl
back cells of same (row ∷ rows) = rw (same row) (ap (λ more. row ∷ more) (back cells of same rows))

pub catalogue_is : (cat : Catalogue) → catalogue_with (catalogue_rows cat) ≡ cat
unfolding catalogue_with
catalogue_is cat =
    let roles = back authid_cells authid_of (λ row. refl) cat.pg_authid in
    let members = back auth_members_cells member_of (λ row. refl) cat.pg_auth_members in
    let databases = back database_cells database_of (λ row. refl) cat.pg_database in
    let schemas = back namespace_cells schema_of (λ row. refl) cat.pg_namespace in
    let types = back type_cells type_of (λ row. refl) cat.pg_type in
    let labels = back enum_cells label_of (λ row. refl) cat.pg_enum in
    let relations = back class_cells relation_of (λ row. refl) cat.pg_class in
    let columns = back attribute_cells column_of (λ row. refl) cat.pg_attribute in
    let defaults = back attrdef_cells default_of (λ row. refl) cat.pg_attrdef in
    let constraints = back constraint_cells constraint_of (λ row. refl) cat.pg_constraint in
    let indexes = back index_cells index_of (λ row. refl) cat.pg_index in
    let sequences = back sequence_cells sequence_of (λ row. refl) cat.pg_sequence in
    let bodies = back rewrite_cells body_of (λ row. refl) cat.pg_rewrite in
    let comments = back description_cells comment_of (λ row. refl) cat.pg_description in
    let dependencies = back depend_cells dependency_of (λ row. refl) cat.pg_depend in
    λ i. record {
      pg_authid = roles i;
      pg_auth_members = members i;
      pg_database = databases i;
      pg_namespace = schemas i;
      pg_type = types i;
      pg_enum = labels i;
      pg_class = relations i;
      pg_attribute = columns i;
      pg_attrdef = defaults i;
      pg_constraint = constraints i;
      pg_index = indexes i;
      pg_sequence = sequences i;
      pg_rewrite = bodies i;
      pg_description = comments i;
      pg_depend = dependencies i;
    }
