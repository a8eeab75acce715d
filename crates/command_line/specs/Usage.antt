-- What a list of words asks for, or why it has no reading.
use Rattle.std.specs.Prelude.{◌≡◌, List, [], ◌∷◌, ℕ, length, drop, Option, Some, None, Result, Ok, Err, IsOk}
use Rattle.command_line.specs.declared.options.Tool.{Tool}
use Rattle.command_line.specs.declared.command.Command.{Command}
use Rattle.command_line.specs.declared.usage.UsageFault.{UsageFault}
use Rattle.command_line.specs.declared.usage.UsageKind.TheVariants.{NoCommand, UnknownCommand}
use Rattle.command_line.specs.declared.usage.ReadWordsError.{ReadWordsError}
use Rattle.command_line.specs.declared.usage.ReadWordsError.TheVariants as errors
use Rattle.command_line.specs.Options.{tool_of}
use Rattle.command_line.specs.Reading.{Plain, Reading, words_read}
use Rattle.command_line.specs.Checks.{fault_at, words_fault}
use Rattle.command_line.specs.Commands.{command_of}

abbrev pub known : Option Tool → Result Tool UsageFault
known None = Err (fault_at 0 UnknownCommand)
known (Some tool) = Ok tool

-- the tool that the first word names
abbrev pub tool_in : List (List ℕ) → Result Tool UsageFault
tool_in [] = Err (fault_at 0 NoCommand)
tool_in (name ∷ words) = known (tool_of name)

-- what the words behind the tool's name say
unfoldable pub said_by : Tool → List (List ℕ) → Reading
said_by tool words = words_read tool Plain 1 (drop 1 words)

abbrev pub fault_with : Tool → List (List ℕ) → Option UsageFault
fault_with tool words = words_fault tool (length words) (said_by tool words)

abbrev pub fault_by_tool : Result Tool UsageFault → List (List ℕ) → Option UsageFault
fault_by_tool (Err fault) words = Some fault
fault_by_tool (Ok tool) words = fault_with tool words

-- why a list of words has no reading
unfoldable pub usage_of : List (List ℕ) → Option UsageFault
usage_of words = fault_by_tool (tool_in words) words

-- the command of a tool's words where they have no fault
abbrev pub or_command : Option UsageFault → Tool → List (List ℕ) → Result Command UsageFault
or_command (Some fault) tool words = Err fault
or_command None tool words = Ok (command_of tool (said_by tool words))

abbrev pub command_by_tool : Result Tool UsageFault → List (List ℕ) → Result Command UsageFault
command_by_tool (Err fault) words = Err fault
command_by_tool (Ok tool) words = or_command (fault_with tool words) tool words

-- what a list of words asks for
unfoldable pub command_from : List (List ℕ) → Result Command UsageFault
command_from words = command_by_tool (tool_in words) words

-- what a call returned is what the words ask for; memory can run out only where they read
abbrev pub Gives : Result Command ReadWordsError → Result Command UsageFault → Type 0
Gives (Ok command) given = given ≡ Ok command
Gives (Err errors.Memory) given = IsOk given
Gives (Err (errors.Usage fault)) given = given ≡ Err fault
