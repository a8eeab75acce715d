use Rattle.cat_names.proofs.FirstFaults.{fault_is_first}
use Rattle.cat_book.specs.Rules.{found, ending}
use Rattle.table_laws.proofs.laws.faults_are_first.Goals as goal

pub returns : goal.returns
returns g c = λ rules cat rows f e. fault_is_first (found rules cat) (ending rules cat) rows f e
