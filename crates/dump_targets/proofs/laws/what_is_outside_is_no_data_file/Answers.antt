use Rattle.dump_targets.proofs.Apart.{dumping_clear}
use Rattle.dump_targets.proofs.laws.what_is_outside_is_no_data_file.Goals as goal

pub returns : goal.returns
returns c = λ folder target select cat tree dump h e. dumping_clear folder target select cat tree dump h e
