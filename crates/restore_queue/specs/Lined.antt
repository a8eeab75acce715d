-- The entries of a state, by their plan and where each of them is.
use Rattle.std.specs.Prelude.{◌≡◌, List, map}
use Rattle.restore_plan.specs.declared.planned.Planned.{Planned}
use Rattle.restore_core.specs.declared.phase.Phase.{Phase}
use Rattle.restore_core.specs.Machine.{Going}

-- a state's entries, by what is planned of them and where each is
pub record AreGoing (plan : List Planned) (phases : List Phase) (entries : List Going) : Type 0 where
  pub plans : map (λ x. x.plan) entries ≡ plan
  pub are : map (λ x. x.phase) entries ≡ phases
