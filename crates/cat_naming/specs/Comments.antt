-- What the rows of pg_description stand for by names.
use Rattle.std.specs.Prelude.{◌==◌, List, [], ◌∷◌, Option, Some, None, if◌then◌else◌}
use Rattle.std.specs.Option.{option_map, option_and_then}
use Rattle.cat_rows.specs.declared.catalogue.Catalogue.{Catalogue}
use Rattle.cat_rows.specs.declared.notes.DescriptionRow.{DescriptionRow}
use Rattle.cat_rows.specs.declared.constraints.ConstraintRow.{ConstraintRow}
use Rattle.cat_model.specs.declared.object.QName.{QName}
use Rattle.cat_model.specs.declared.object.Object.{Object}
use Rattle.cat_model.specs.declared.object.Object.TheVariants as object
use Rattle.cat_model.specs.declared.key.Key.TheVariants as key
use Rattle.cat_model.specs.declared.value.Value.TheVariants as value
use Rattle.cat_names.specs.Naming.{Entry}
use Rattle.constraint_table.specs.Comments.{is_whole}
use Rattle.cat_book.specs.Paths.{path_of, schema_of, class_path_of}
use Rattle.cat_lookups.specs.Found.{column_name, constraint_of}

-- a constraint of a table
abbrev pub constraint_object : Catalogue → ConstraintRow → Option Object
constraint_object cat row = option_map (λ table. object.Constraint table row.conname) (class_path_of cat row.conrelid)

-- a relation, or its column
abbrev pub relation_object : Catalogue → DescriptionRow → QName → Option Object
relation_object cat row path =
    if is_whole row.objsubid then Some (object.Relation path)
    else option_map (λ column. object.Column path column) (column_name cat row.objoid row.objsubid)

-- What a comment is on, by the system table in which the object's row stands: pg_namespace, pg_type, pg_class or
-- pg_constraint.
abbrev pub commented_object : Catalogue → DescriptionRow → Option Object
commented_object cat row =
    if row.classoid == 2615 then option_map (λ s. object.Schema s.nspname) (schema_of cat.pg_namespace row.objoid)
    else if row.classoid == 1247 then option_map object.Type (path_of cat row.objoid)
    else if row.classoid == 1259 then option_and_then (relation_object cat row) (class_path_of cat row.objoid)
    else if row.classoid == 2606 then option_and_then (constraint_object cat) (constraint_of cat row.objoid)
    else None

abbrev pub with_object : DescriptionRow → Option Object → List Entry
with_object row None = []
with_object row (Some o) = (key.Comment o, value.Comment row.description) ∷ []

abbrev pub comment_entries : Catalogue → DescriptionRow → List Entry
comment_entries cat row = with_object row (commented_object cat row)
