use Rattle.well_formed.proofs.Formed.{well_formed, without_fault}
use Rattle.well_formed.proofs.laws.well_formed_is_without_fault.Goals as goal

pub returns : goal.returns
returns c = λ cat. (well_formed cat, without_fault cat)
