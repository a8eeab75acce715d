use Rattle.std.proofs.Common.{◌≡◌, [], drop, map}
use Rattle.cat_rows.specs.RowCells.{namespace_cells}
use Rattle.schema_folders.specs.Folder.{rows_after}
use Rattle.schema_folders.proofs.opening.schemas_of_rows.Given as goal

-- the rows so far, and those left behind them, are all rows
abbrev pub invariant-loop-row : goal.invariant-loop-row
invariant-loop-row l = rows_after l.schemas (map namespace_cells (drop l.row-index l.rows)) ≡ rows_after [] (map namespace_cells l.rows)
