-- How a restore ends.
use Rattle.std.proofs.Common.{◌≡◌, ℕ, ◌==◌, Bool, true, false, Option, Some, None, Result, Ok, Err, IfOk, if◌then◌else◌, inl, inr, refl}
use Rattle.restore_folders.specs.Works.{answer_by}
use Rattle.restore_folders.specs.Reports.{Stopping}
use Rattle.restore_folders.specs.Writing.{IsUnwritten}
use Rattle.tool_words.specs.declared.outcome.Outcome.{Outcome}
use Rattle.tool_words.specs.declared.outcome.Outcome.TheVariants.{Done, Usage, ReadFault, WriteFault, Missing, BadExport, BadScript, OutOfProfile, TooLarge, Differs, ScriptStopped, BadArchive, BadList, BadDefn, WithErrors, RestoreStopped, Loop, NoMatch, Memory}
use Rattle.restore_tools.specs.Due.{Restoring, ending}
use Rattle.restore_tools.specs.Standing.{IsAnswer, IsAnswerDue}

by_count : (errors : ℕ) (b : Bool) → IsAnswer (if b then Done else WithErrors errors)
by_count errors true = tt
by_count errors false = tt

-- the answers of a restore that has run
pub answers_end : (errors : ℕ) (stopped : Option Stopping) → IsAnswer (answer_by errors stopped)
answers_end errors (Some stop) = tt
answers_end errors None = by_count errors (errors == 0)

-- what it leaves isn't written
pub unmade_due : (outcome : Outcome) (plan : Restoring) → IsUnwritten plan.work.opening.cat (ending plan).left outcome → IsAnswerDue outcome (Ok plan)
unmade_due Done plan h = elim h [ ]
unmade_due (Usage word kind) plan h = elim h [ ]
unmade_due ReadFault plan h = elim h [ ]
unmade_due WriteFault plan h = elim h [ ]
unmade_due (Missing name) plan h = elim h [ ]
unmade_due (BadExport file line kind) plan h = elim h [ ]
unmade_due (BadScript fault) plan h = elim h [ ]
unmade_due (OutOfProfile what) plan h = inr (h.0, (plan, refl, h.1))
unmade_due (TooLarge what most) plan h = inr (plan, refl, h)
unmade_due (Differs key) plan h = elim h [ ]
unmade_due (ScriptStopped stop) plan h = elim h [ ]
unmade_due (BadArchive fault) plan h = elim h [ ]
unmade_due (BadList fault) plan h = elim h [ ]
unmade_due (BadDefn entry fault) plan h = elim h [ ]
unmade_due (WithErrors errors) plan h = elim h [ ]
unmade_due (RestoreStopped stop) plan h = elim h [ ]
unmade_due (Loop path) plan h = elim h [ ]
unmade_due (NoMatch pattern) plan h = elim h [ ]
unmade_due Memory plan h = inl tt

-- an answer of which two things are known
pub both_ok : {X Y : Type 0} (r : Result X Y) (P Q : X → Type 0) → IfOk r P → IfOk r Q → IfOk r (λ x. P x × Q x)
both_ok (Ok x) P Q p q = (p, q)
both_ok (Err y) P Q p q = tt
