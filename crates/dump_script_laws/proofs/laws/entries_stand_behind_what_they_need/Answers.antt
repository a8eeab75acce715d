use Rattle.dump_script_laws.proofs.Behind.{are_behind}
use Rattle.dump_script_laws.proofs.laws.entries_stand_behind_what_they_need.Goals as goal

pub returns : goal.returns
returns c = are_behind c.needs_stand_before.ensures
