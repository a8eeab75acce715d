use Rattle.dump_tools.proofs.Staying.{whole_short}
use Rattle.dump_tools.proofs.laws.a_whole_run_is_cut_behind_its_end.Goals as goal

pub returns : goal.returns
returns c = whole_short
