-- Keys of rows, and the first table of a path.
use Rattle.std.specs.Prelude.{ℕ, Bool, true, false, ◌&&◌, List, [], ◌∷◌, Option, Some, None, if◌then◌else◌}
use Rattle.cat_rows.specs.declared.catalogue.Catalogue.{Catalogue}
use Rattle.cat_rows.specs.declared.relations.ClassRow.{ClassRow}
use Rattle.cat_model.specs.declared.object.QName.{QName}
use Rattle.cat_model.specs.declared.key.Key.{Key}
use Rattle.cat_model.specs.declared.key.Key.TheVariants as key
use Rattle.cat_model.specs.Trees.{same_path}
use Rattle.cat_names.specs.Kinds.{relation_kind, is_table}
use Rattle.cat_book.specs.Paths.{class_path}

abbrev pub is_rows : Key → Bool
is_rows (key.Rows q) = true
is_rows _ = false

abbrev pub at_path : QName → Option QName → Bool
at_path p None = false
at_path p (Some q) = same_path p q

-- whether a row of pg_class is a table of this path
abbrev pub is_table_at : Catalogue → QName → ClassRow → Bool
is_table_at cat p row = at_path p (class_path cat.pg_namespace row) && is_table (Some (relation_kind row.relkind))

-- the oid of the first of these that is
abbrev pub first_table : Catalogue → QName → List ClassRow → Option ℕ
first_table cat p [] = None
first_table cat p (row ∷ rows) = if is_table_at cat p row then Some row.oid else first_table cat p rows
