use Rattle.column_numbers.proofs.Rises.{rise}
use Rattle.column_numbers.proofs.laws.numbers_rise.Goals as goal

pub returns : goal.returns
returns c = λ named had apart. rise had named apart
