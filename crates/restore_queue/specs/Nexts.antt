-- Where the entry that a worker runs may be behind one of its statements.
use Rattle.std.specs.Prelude.{◌≡◌, ℕ}
use Rattle.restore_core.specs.declared.phase.Phase.{Phase}
use Rattle.restore_core.specs.declared.phase.Phase.TheVariants.{Waiting, Running, Ended}

-- it runs on with the same worker, or it has ended
abbrev pub IsNext : ℕ → Phase → Type 0
IsNext by Waiting = ⊥
IsNext by (Running worker run) = worker ≡ by
IsNext by (Ended status) = Unit {0}
