use Rattle.restorable_entries.proofs.Running.{scripts_say}
use Rattle.restorable_entries.proofs.laws.restores_do_what_scripts_say.Goals as goal

pub returns : goal.returns
returns c = scripts_say
