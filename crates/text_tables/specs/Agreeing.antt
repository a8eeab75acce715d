-- Whether the texts of rows agree with the rows: the types that they name, and what they refer to.
use Rattle.std.specs.Prelude.{ℕ, Bool, true, false, not, ◌&&◌, Option, Some, None, if◌then◌else◌}
use Rattle.std.specs.List.{list_all}
use Rattle.cat_rows.specs.declared.catalogue.Catalogue.{Catalogue}
use Rattle.cat_model.specs.declared.key.Key.{Key}
use Rattle.cat_model.specs.declared.key.Key.TheVariants as key
use Rattle.cat_model.specs.declared.object.QName.{QName}
use Rattle.cat_model.specs.declared.type_name.TypeName.{TypeName}
use Rattle.cat_model.specs.declared.type_name.TypeName.TheVariants as type_name
use Rattle.cat_model.specs.References.{is_system, expression_references}
use Rattle.cat_model.specs.Values.{Bytes}
use Rattle.cat_names.specs.Lookups.{is_no_oid}
use Rattle.cat_book.specs.Paths.{same_path, path_of, type_paths, class_paths, has_path}
use Rattle.row_texts.specs.DefaultTexts.{is_default}
use Rattle.row_texts.specs.TypeTexts.{type_named}

-- ---- types

-- a type that has no row in pg_type: words, or a name in a schema of the system
abbrev pub is_without_row : TypeName → Bool
is_without_row (type_name.Words words) = true
is_without_row (type_name.Path q) = is_system q.schema

-- whether there is a path, and it is this one
abbrev pub is_path : Option QName → QName → Bool
is_path None q = false
is_path (Some path) q = same_path path q

-- whether a type is the one of a path
abbrev pub is_at : Option QName → TypeName → Bool
is_at path (type_name.Path q) = is_path path q
is_at path (type_name.Words words) = false

-- whether an oid and a type's name agree: 0 goes with a type that has no row, another oid with its row's path
abbrev pub agrees : Catalogue → ℕ → TypeName → Bool
agrees cat oid name = if is_no_oid oid then is_without_row name else is_at (path_of cat oid) name

abbrev pub agrees_if_named : Catalogue → ℕ → Option TypeName → Bool
agrees_if_named cat oid None = false
agrees_if_named cat oid (Some name) = agrees cat oid name

-- whether a text names the type that an oid leads to
abbrev pub is_type_named : Catalogue → ℕ → Bytes → Bool
is_type_named cat oid text = agrees_if_named cat oid (type_named text)

-- ---- references

-- Whether a reference names what is there: a relation of any kind, or a type other than the one of a path, which is the
-- domain that has the expression. Expressions and views refer to nothing else.
abbrev pub is_met : Catalogue → Option QName → Key → Bool
is_met cat own (key.Rel q) = has_path (class_paths cat) q
is_met cat own (key.UserType q) = has_path (type_paths cat) q && not (is_path own q)
is_met cat own _ = true

-- whether all references of an expression are met
abbrev pub are_met : Catalogue → Option QName → Bytes → Bool
are_met cat own text = list_all (is_met cat own) (expression_references text)

-- whether a text is the expression of a default whose references are met
abbrev pub is_met_default : Catalogue → Option QName → Bytes → Bool
is_met_default cat own text = is_default text && are_met cat own text
