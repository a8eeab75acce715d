use Rattle.folder_rows.proofs.Holds.{read_holds, holds_read}
use Rattle.folder_rows.proofs.laws.folders_hold_their_rows.Goals as goal

pub returns : goal.returns
returns c = λ folder used cat tree rows. (read_holds folder tree used cat rows, holds_read folder tree used cat rows)
