use Rattle.saved_folders.proofs.InOrder.{in_order}
use Rattle.saved_folders.proofs.laws.catalogues_in_order_are_read.Goals as goal

pub returns : goal.returns
returns c = λ cat rows texts folder tree are stands formed hold_rows.
    in_order c.rows_have_one_order.ensures.one c.read_rows_can_be_written.ensures (λ f used read t its e. (c.folders_hold_their_rows.ensures f used read t its).0 e) cat rows texts folder tree are stands formed hold_rows
