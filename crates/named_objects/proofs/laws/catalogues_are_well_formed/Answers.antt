use Rattle.named_objects.proofs.Formed.{all_formed}
use Rattle.named_objects.proofs.laws.catalogues_are_well_formed.Goals as goal

pub returns : goal.returns
returns c = λ texts named oids current depends cat rows sound own started numbers checks own_labels kept are. all_formed texts named oids current depends cat rows sound own started numbers checks own_labels kept are
