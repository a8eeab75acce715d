-- Where an entry is: it waits, it runs, or it has ended with a status.
use Rattle.std.specs.Prelude.{ℕ, ◌==◌, Bool, true, false, Option, Some, None}
use Rattle.cat_model.specs.declared.cause.Cause.{Cause}
use Rattle.restore_plan.specs.declared.status.EntryStatus.{EntryStatus}
use Rattle.restore_core.specs.declared.phase.Phase.{Phase}
use Rattle.restore_core.specs.declared.phase.Phase.TheVariants.{Waiting, Running, Ended}

abbrev pub is_waiting : Phase → Bool
is_waiting Waiting = true
is_waiting _ = false

abbrev pub is_running : Phase → Bool
is_running (Running worker run) = true
is_running _ = false

abbrev pub is_run_by : ℕ → Phase → Bool
is_run_by by (Running worker run) = worker == by
is_run_by by _ = false

abbrev pub has_ended : Phase → Bool
has_ended (Ended status) = true
has_ended _ = false

abbrev pub status_in : Phase → Option EntryStatus
status_in (Ended status) = Some status
status_in _ = None
