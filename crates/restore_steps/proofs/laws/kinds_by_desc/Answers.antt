use Rattle.std.proofs.Common.{refl}
use Rattle.restore_steps.specs.Statements.{kind_of}
use Rattle.restore_steps.proofs.laws.kinds_by_desc.Goals as goal

pub returns : goal.returns
unfolding kind_of
returns c = record { table = refl; rows = refl; index = refl; other = refl }
