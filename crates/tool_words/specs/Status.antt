-- The exit status of each outcome.
-- Everything but Done is an error; want of memory and a script that stopped have a status of their own.
use Rattle.std.specs.Prelude.{ℕ}
use Rattle.ddl_read.specs.fault.ReadStmtsError.{ReadStmtsError}
use Rattle.ddl_read.specs.fault.ReadStmtsError.TheVariants as errors
use Rattle.tool_words.specs.declared.outcome.Outcome.{Outcome}
use Rattle.tool_words.specs.declared.outcome.Outcome.TheVariants.{Done, BadScript, ScriptStopped, Memory}

abbrev pub status_of : Outcome → ℕ
status_of Done = 0
status_of Memory = 71
status_of (ScriptStopped stop) = 3
status_of _ = 1

-- the outcome where a script isn't read
abbrev pub script_outcome : ReadStmtsError → Outcome
script_outcome (errors.Fault fault) = BadScript fault
script_outcome errors.Memory = Memory
