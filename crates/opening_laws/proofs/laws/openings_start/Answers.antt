use Rattle.opening_laws.proofs.Started.{started}
use Rattle.opening_laws.proofs.laws.openings_start.Goals as goal

pub returns : goal.returns
returns c = λ texts cat rows named d well sound grows among. started texts cat rows well named sound grows d among
