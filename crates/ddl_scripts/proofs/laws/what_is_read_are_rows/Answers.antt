use Rattle.ddl_scripts.proofs.RowTexts.{read_are_rows, rows_bounds}
use Rattle.ddl_scripts.proofs.laws.what_is_read_are_rows.Goals as goal

pub returns : goal.returns
returns c = record { rows = read_are_rows; bounds = rows_bounds }
