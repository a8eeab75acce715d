-- Outcomes that say nothing of what was read.
use Rattle.std.specs.Prelude.{◌≡◌, ◌⊎◌}
use Rattle.tool_words.specs.declared.outcome.Outcome.{Outcome}
use Rattle.tool_words.specs.declared.outcome.Outcome.TheVariants.{ReadFault, Memory}

-- a call of the files failed, or memory ran out
abbrev pub IsCutOff : Outcome → Type 0
IsCutOff outcome = (outcome ≡ ReadFault) ⊎ (outcome ≡ Memory)
