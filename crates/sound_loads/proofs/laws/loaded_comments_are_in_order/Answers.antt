use Rattle.cat_model.specs.declared.key.Key.TheVariants as key
use Rattle.sound_loads.proofs.Comments.{comment_sound}
use Rattle.sound_loads.proofs.Standing.{origin}
use Rattle.sound_loads.proofs.laws.loaded_comments_are_in_order.Goals as goal

pub returns : goal.returns
returns c = λ texts o cat rows v well is. comment_sound texts cat rows well o v (origin cat rows (key.Comment o) v is)
