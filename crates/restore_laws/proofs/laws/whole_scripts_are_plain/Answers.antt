use Rattle.std.proofs.Common.{length, ◌∙◌}
use Rattle.std.specs.List.{range_with_len}
use Rattle.entry_choices.specs.Choices.{wanted}
use Rattle.restore_laws.proofs.Chosen.{may_go, scripts_alike}
use Rattle.restore_laws.proofs.laws.whole_scripts_are_plain.Goals as goal

pub returns : goal.returns
returns c = λ owners o custom head entries heads are none.
    may_go owners custom (range_with_len 0 (length custom.entries)) (wanted o custom.entries) none
    ∙ scripts_alike owners custom (range_with_len 0 (length custom.entries)) head entries heads are
