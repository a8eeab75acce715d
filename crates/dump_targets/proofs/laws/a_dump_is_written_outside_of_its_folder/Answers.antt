use Rattle.dump_targets.proofs.Saying.{words_outside}
use Rattle.dump_targets.proofs.laws.a_dump_is_written_outside_of_its_folder.Goals as goal

pub returns : goal.returns
returns c = λ words asked e. words_outside words asked e
