use Rattle.cat_sound.proofs.Opening.{opening_sound}
use Rattle.cat_sound.proofs.examples.an_empty_cluster_is_sound.Goals as goal

pub returns : goal.returns
returns c = opening_sound
