use Rattle.clone_words.proofs.Outside.{are_outside}
use Rattle.clone_words.proofs.laws.a_clone_is_written_outside_of_its_folders.Goals as goal

pub returns-clause-source : goal.returns-clause-source
returns-clause-source c = λ words asked e. (are_outside words asked e).source

pub returns-clause-target : goal.returns-clause-target
returns-clause-target c = λ words asked e. (are_outside words asked e).target
