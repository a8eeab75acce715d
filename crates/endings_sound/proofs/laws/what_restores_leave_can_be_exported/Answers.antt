use Rattle.endings_sound.proofs.Openings.{restore_exported}
use Rattle.endings_sound.proofs.laws.what_restores_leave_can_be_exported.Goals as goal

pub returns : goal.returns
returns c = λ folder tree opening role teller owners entries rows wanted stop taken is_role read. restore_exported folder tree opening role taken is_role teller owners entries rows wanted stop read
