use Rattle.column_numbers.proofs.Rises.{keep}
use Rattle.column_numbers.proofs.laws.numbers_are_kept.Goals as goal

pub returns : goal.returns
returns c = λ named had apart q columns i column there rose at. keep had named apart q columns i column there rose at
