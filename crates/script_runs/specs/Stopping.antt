-- A script that runs to its end, or to the first of its statements that is refused: what it leaves, and where it stops.
use Rattle.std.specs.Prelude.{ℕ, Bool, List, [], ◌∷◌, ◌++◌, Option, Some, None, Result, Ok, Err, codes, decimal, if◌then◌else◌}
use Rattle.cat_model.specs.declared.cause.Cause.{Cause}
use Rattle.cat_model.specs.Values.{Bytes, Named}
use Rattle.ddl_read.specs.located.Located.{Located}
use Rattle.schema_folders.specs.Run.{said, catalogue_after, refusals}
use Rattle.tool_words.specs.Messages.{Refusal, cause_text, report}

-- what statements leave, and the first one that was refused
pub record Ending : Type 0 where
  pub left : Named
  pub stopped : Option Refusal

abbrev pub ended : Named → Option Refusal → Ending
ended named stopped = record { left = named; stopped = stopped }

-- behind a statement: the others, or none where it was refused
abbrev pub behind : (Named → Ending) → Named → Located → Result Named Cause → Ending
behind more named located (Ok after) = more after
behind more named located (Err cause) = ended named (Some (located.start, cause))

-- the statements up to the first that is refused
abbrev pub until : Bytes → List Located → Named → Ending
until boot [] named = ended named None
until boot (located ∷ more) named = behind (until boot more) named located (said boot located.stmt named)

abbrev pub first_of : List Refusal → Option Refusal
first_of [] = None
first_of (refusal ∷ more) = Some refusal

-- all statements, where a refused one changes nothing
abbrev pub throughout : Bytes → List Located → Named → Ending
throughout boot statements named = ended (catalogue_after boot statements named) None

-- a script that stops at the first refused statement, or goes on
unfoldable pub ending : Bool → Bytes → List Located → Named → Ending
ending stop boot statements named = if stop then until boot statements named else throughout boot statements named

-- psql's line of the statement at which it stopped
abbrev pub stop_line : Refusal → List ℕ
stop_line refusal = codes "psql: error: stopped at " ++ decimal refusal.0 ++ codes ": " ++ cause_text refusal.1 ++ 10 ∷ []

abbrev pub stop_told : Option Refusal → List ℕ
stop_told None = []
stop_told (Some refusal) = stop_line refusal

-- what is told of a script: where it stopped, or each statement that was refused
unfoldable pub told : Bool → Bytes → List Located → Named → List ℕ
told stop boot statements named = if stop then stop_told (until boot statements named).stopped else report (refusals boot statements named)
