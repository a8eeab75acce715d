use Rattle.std.proofs.lemmas.Simd.{get_or-chunk}
use Rattle.field_marks.proofs.block.load.Goals as goal

pub returns : goal.returns
returns c = λ k l. get_or-chunk c.args.at 64 c.args.text.now k 0 l
