use Rattle.data_rows.proofs.SameLemmas.{row_eq-Decides}
use Rattle.data_rows.proofs.same.same_row.Goals as goal

pub returns : goal.returns
returns c = row_eq-Decides c.args.row.now c.args.other.now c.eq.result c.eq.ensures
