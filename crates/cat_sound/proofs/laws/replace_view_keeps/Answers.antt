use Rattle.cat_sound.proofs.Sequences.{replace_view-keeps}
use Rattle.cat_sound.proofs.laws.replace_view_keeps.Goals as goal

pub returns : goal.returns
returns c = λ texts named q body sound good. (replace_view-keeps texts named sound q body good).is
