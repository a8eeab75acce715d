use Rattle.std.proofs.Common.{◌≡◌, map, ◌++◌, length}
use Rattle.std.specs.Vec.Iter.{into_iter_items}
use Rattle.cat_rows.specs.RowCells.{namespace_cells}
use Rattle.schema_folders.specs.Folder.{cells_of_row}
use Rattle.schema_folders.proofs.namespaces.rows_text.Given as goal

-- the rows so far, and those left behind them, are all rows
abbrev pub invariant-rows : goal.invariant-rows
invariant-rows l = map namespace_cells l.catalogue.pg_namespace ++ map cells_of_row (into_iter_items l.left) ≡ map cells_of_row l.fn.rows.items

abbrev pub decreases-rows : goal.decreases-rows
decreases-rows l = length (into_iter_items l.left)
