use Rattle.named_objects.proofs.Whole.{whole_named}
use Rattle.named_objects.proofs.laws.catalogues_are_named.Goals as goal

pub returns : goal.returns
returns c = λ texts named oids current depends cat rows sound own numbers checks are. whole_named texts named sound oids own numbers checks current depends cat rows are
