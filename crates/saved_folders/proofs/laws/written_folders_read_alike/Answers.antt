use Rattle.saved_folders.proofs.Alike.{read_alike}
use Rattle.saved_folders.proofs.laws.written_folders_read_alike.Goals as goal

pub returns : goal.returns
returns c = λ cat rows texts others are are_others folder other tree before.
    read_alike c.rows_have_one_order.ensures.one c.read_rows_can_be_written.ensures cat rows texts others are are_others folder other tree before
