-- What the rows of pg_constraint and pg_index stand for by names. The checks of domains stand in the domains.
use Rattle.std.specs.Prelude.{List, [], ◌∷◌, Option, Some, None}
use Rattle.std.specs.Option.{option_and_then}
use Rattle.cat_rows.specs.declared.catalogue.Catalogue.{Catalogue}
use Rattle.cat_rows.specs.declared.constraints.ConstraintRow.{ConstraintRow}
use Rattle.cat_rows.specs.declared.relations.IndexRow.{IndexRow}
use Rattle.cat_model.specs.declared.constraint.ConstraintKind.TheVariants as kinds
use Rattle.cat_model.specs.declared.key.Key.TheVariants as key
use Rattle.cat_model.specs.declared.stmt.Stmt.{Stmt}
use Rattle.cat_model.specs.declared.stmt.Stmt.TheVariants as stmt
use Rattle.cat_model.specs.KeyEffects.{key_value, foreign_value}
use Rattle.cat_model.specs.RelationEffects.{check_value}
use Rattle.cat_model.specs.declared.value.Value.TheVariants as value
use Rattle.cat_model.specs.declared.value.Value.{Value}
use Rattle.cat_names.specs.Naming.{Entry}
use Rattle.cat_book.specs.Paths.{class_path_of}
use Rattle.row_texts.specs.IndexTexts.{index_said}
use Rattle.row_texts.specs.declared.index_text.IndexText.{IndexText}
use Rattle.constraint_table.specs.Said.{statement_said}
use Rattle.cat_naming.specs.Types.{under_path, with_value}

-- what ALTER TABLE .. ADD CONSTRAINT sets
abbrev pub constraint_value : Stmt → Option Value
constraint_value (stmt.AddPrimary q name columns rest) = Some (key_value kinds.Primary columns rest)
constraint_value (stmt.AddUnique q name columns rest) = Some (key_value kinds.Unique columns rest)
constraint_value (stmt.AddForeign q name columns parent parent_columns rest) = Some (foreign_value columns parent parent_columns rest)
constraint_value (stmt.AddCheck q name text) = Some (check_value text)
constraint_value _ = None

-- a constraint of a table
abbrev pub constraint_entries : Catalogue → ConstraintRow → List Entry
constraint_entries cat row =
    under_path (class_path_of cat row.conrelid) (λ table.
    with_value (option_and_then constraint_value (statement_said row.condef)) (λ v.
    (key.Con table row.conname, v) ∷ []))

abbrev pub index_entry : IndexText → Entry
index_entry said = (key.Index said.table said.name, value.Index (record { method = said.method; unique = said.unique; text = said.rest }))

abbrev pub said_entries : Option IndexText → List Entry
said_entries None = []
said_entries (Some said) = index_entry said ∷ []

-- an index that isn't a constraint's, as its text says it
abbrev pub index_entries : IndexRow → List Entry
index_entries row = said_entries (index_said row.indexdef)
