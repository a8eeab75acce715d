use Rattle.endings_sound.proofs.Openings.{script_exported}
use Rattle.endings_sound.proofs.laws.what_psql_leaves_can_be_exported.Goals as goal

pub returns : goal.returns
returns c = λ folder tree opening role text statements stop taken is_role read. script_exported folder tree opening role taken is_role text statements stop read
