-- The text of a file that must be there and no longer than its limit.
use Rattle.std.specs.Prelude.{ℕ, ◌+◌, ◌++◌, List, length, Option, Some, None, Result, Ok, Err, nat_le, if◌then◌else◌, codes}
use Rattle.dump_ports.specs.Tree.{Tree, text_at}
use Rattle.tool_words.specs.declared.outcome.Limit.{Limit}
use Rattle.tool_words.specs.declared.outcome.Outcome.{Outcome}
use Rattle.tool_words.specs.declared.outcome.Outcome.TheVariants.{Missing, TooLarge}

abbrev pub within : Limit → ℕ → List ℕ → Option (List ℕ) → Result (List ℕ) Outcome
within what limit name None = Err (Missing name)
within what limit name (Some text) = if nat_le (length text) limit then Ok text else Err (TooLarge what (limit + 1))

unfoldable pub file_of : Limit → ℕ → List ℕ → Tree → Result (List ℕ) Outcome
file_of what limit name tree = within what limit name (text_at tree name)

-- the path of a file in a folder
abbrev pub path : List ℕ → List ℕ → List ℕ
path folder name = folder ++ codes "/" ++ name
