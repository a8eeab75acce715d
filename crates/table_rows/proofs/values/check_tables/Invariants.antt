-- No text so far has a fault.
use Rattle.std.proofs.Common.{◌≡◌, drop}
use Rattle.cat_names.specs.Lookups.{count_of}
use Rattle.table_rows.specs.Values.{text_of, first_fault}
use Rattle.table_rows.proofs.values.check_tables.Given as goal

abbrev pub invariant-loop-table : goal.invariant-loop-table
invariant-loop-table l = first_fault (count_of l.columns) (text_of l.rows) l.tables ≡ first_fault (count_of l.columns) (text_of l.rows) (drop l.table-index l.tables)
