-- What the words of a command line ask pg_clone for.
use Rattle.std.specs.Prelude.{ℕ, nat_lt, Bool, false, List, Option, Some, None, Result, Ok, Err, if◌then◌else◌}
use Rattle.command_line.specs.declared.command.Command.{Command}
use Rattle.command_line.specs.declared.command.Command.TheVariants.{PgClone}
use Rattle.command_line.specs.declared.command.CloneWords.{CloneWords}
use Rattle.command_line.specs.declared.usage.UsageFault.{UsageFault}
use Rattle.command_line.specs.declared.values.Format.{Format}
use Rattle.command_line.specs.declared.values.Format.TheVariants.{Plain}
use Rattle.command_line.specs.Usage.{command_from}
use Rattle.clone_words.specs.declared.asked.CloneAsked.{CloneAsked}

-- a script is what is written where no format is named
abbrev pub format_or_script : Option Format → Format
format_or_script None = Plain
format_or_script (Some format) = format

-- more than one worker is asked for
abbrev pub has_workers : Option ℕ → Bool
has_workers None = false
has_workers (Some jobs) = nat_lt 1 jobs

abbrev pub asked_of : CloneWords → CloneAsked
asked_of words = record { source = words.source; choice = words.choice; format = format_or_script words.format; archive = words.file; target = words.target }

-- a command that is a clone with one worker
abbrev pub of_command : Command → Option CloneAsked
of_command (PgClone words) = if has_workers words.jobs then None else Some (asked_of words)
of_command _ = None

abbrev pub of_reading : Result Command UsageFault → Option CloneAsked
of_reading (Err fault) = None
of_reading (Ok command) = of_command command

-- the clone with one worker that the words ask for, where they do
unfoldable pub clone_in : List (List ℕ) → Option CloneAsked
clone_in words = of_reading (command_from words)
