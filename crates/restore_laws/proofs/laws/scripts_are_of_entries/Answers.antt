use Rattle.restore_laws.proofs.Chosen.{scripts_alike}
use Rattle.restore_laws.proofs.laws.scripts_are_of_entries.Goals as goal

pub returns : goal.returns
returns c = scripts_alike
