-- What is told of the statements of a script that were refused, by the tool that tells it.
use Rattle.std.specs.Prelude.{List, [], ◌∷◌, ◌++◌, codes, decimal}
use Rattle.std.specs.List.{flat_map}
use Rattle.cat_model.specs.Values.{Bytes}
use Rattle.tool_words.specs.Messages.{Refusal, cause_text}

-- the line of a statement that was refused: where it stands, and why
abbrev pub refusal_line : Bytes → Refusal → Bytes
refusal_line teller refusal = teller ++ codes ": error: at " ++ decimal refusal.0 ++ codes ": " ++ cause_text refusal.1 ++ 10 ∷ []

-- a line for each of them
abbrev pub report : Bytes → List Refusal → Bytes
report teller refusals = flat_map (refusal_line teller) refusals
