use Rattle.reordered_rows.proofs.Reading.{is_read}
use Rattle.reordered_rows.proofs.laws.written_tables_are_read.Goals as goal

pub returns : goal.returns
returns c = λ cat rows texts folder tree are good formed.
    is_read c.rows_have_one_order.ensures.one c.read_rows_can_be_written.ensures (λ f used read t its e. (c.folders_hold_their_rows.ensures f used read t its).0 e) cat rows texts folder tree are good formed
