-- The rows of tables, as the texts that hold them.
use Rattle.cat_model.specs.RowTexts.{rows_held}
use Rattle.cat_names.specs.DataSets.{TextsByOid}
use Rattle.table_rows.specs.Values.{text_of}
use Rattle.cat_naming.specs.Relations.{RowsByOid}

-- the rows that the texts hold
abbrev pub rows_by_oid : TextsByOid → RowsByOid
rows_by_oid texts oid = rows_held (text_of texts oid)
