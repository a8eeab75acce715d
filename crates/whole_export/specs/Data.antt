-- The texts of the rows of tables, by the tables' oids.
use Rattle.std.specs.Prelude.{◌≡◌, List, [], ◌∷◌}
use Rattle.std.specs.FinMap.{insert}
use Rattle.copy_text.specs.Rows.{spell_rows}
use Rattle.cat_model.specs.declared.key.Key.TheVariants as key
use Rattle.cat_model.specs.declared.value.Value.TheVariants as value
use Rattle.cat_model.specs.RowTexts.{rows_held}
use Rattle.cat_names.specs.DataSets.{TextsByOid}
use Rattle.cat_names.specs.Naming.{Entry}
use Rattle.object_ids.specs.Ids.{IdsOf}
use Rattle.entry_ids.specs.Ids.{of_keys}

-- the text of the rows of an entry, where it has some
abbrev pub with_rows : IdsOf → Entry → TextsByOid → TextsByOid
with_rows ids (key.Rows q, value.Rows rows) texts = insert texts (of_keys ids (key.Rel q)) (spell_rows rows)
with_rows ids _ texts = texts

abbrev pub with_all_rows : IdsOf → List Entry → TextsByOid → TextsByOid
with_all_rows ids [] texts = texts
with_all_rows ids (e ∷ es) texts = with_all_rows ids es (with_rows ids e texts)

-- the rows of an entry, where it has some, are read as they are written
abbrev pub IsHeld : Entry → Type 0
IsHeld (key.Rows q, value.Rows rows) = rows_held (spell_rows rows) ≡ rows
IsHeld _ = Unit {0}
