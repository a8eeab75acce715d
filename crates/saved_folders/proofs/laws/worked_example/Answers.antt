use Rattle.std.proofs.Common.{refl}
use Rattle.std.specs.Fmt.{digits}
use Rattle.saved_folders.proofs.laws.worked_example.Goals as goal

pub returns : goal.returns
unfolding digits
returns c = record { order = refl; no_name = refl }
