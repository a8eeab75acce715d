use Rattle.saved_folders.proofs.Kept.{reordered}
use Rattle.saved_folders.proofs.laws.written_folders_keep_their_rows.Goals as goal

pub returns : goal.returns
returns c = λ cat rows texts folder tree export are is.
    reordered c.rows_have_one_order.ensures.one c.read_rows_can_be_written.ensures (λ f used read t its e. (c.folders_hold_their_rows.ensures f used read t its).0 e) cat rows texts folder tree export are is
