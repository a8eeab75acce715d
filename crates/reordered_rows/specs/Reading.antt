-- What a folder that was written can be read as.
use Rattle.std.specs.Prelude.{Result, Ok, Err}
use Rattle.exports.specs.Exports.{Exported}
use Rattle.tool_words.specs.declared.outcome.Outcome.{Outcome}
use Rattle.tool_words.specs.declared.outcome.Outcome.TheVariants.{TooLarge}

-- an export is read, or the folder is past a limit
abbrev pub IsReadOrTooLarge : Result Exported Outcome → Type 0
IsReadOrTooLarge (Ok export) = Unit {0}
IsReadOrTooLarge (Err (TooLarge limit n)) = Unit {0}
IsReadOrTooLarge (Err outcome) = ⊥
