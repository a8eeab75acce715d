use Rattle.fmt_custom.proofs.Telling.{told, none, all}
use Rattle.fmt_custom.proofs.laws.places_are_told_one_by_one.Goals as goal

pub returns : goal.returns
returns c = record { told = told; none = none; all = all }
