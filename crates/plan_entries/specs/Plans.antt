-- A plan: the entries of an archive in the order of a list, and each in its place.
use Rattle.std.specs.Prelude.{ℕ, Bool, List, [], Option, Result, Ok}
use Rattle.std.specs.Global.{Vec}
use Rattle.cat_model.specs.declared.object.QName.{QName}
use Rattle.restore_plan.specs.declared.planned.Planned.{Planned}
use Rattle.restore_plan.specs.Order.{plan_behind}
use Rattle.restore_steps.specs.declared.fault.PlanFault.{PlanFault}
use Rattle.restore_steps.specs.Faults.{entries_due}
use Rattle.restore_steps.specs.Statements.{◌>>=◌}
use Rattle.toc_entry.specs.declared.entry.Entry.{Entry}

pub record Made : Type 0 where
  pub entries : List Entry
  pub planned : List Planned

-- The plan of entries with their rows, with owners or without, over an opening with these foreign keys; or the fault of
-- the first entry that has one.
unfoldable pub plan_due : List (QName × QName) → Bool → List Entry → List (Option (Vec ℕ)) → Result Made PlanFault
plan_due parents owners entries texts =
    entries_due owners entries texts >>= λ es. Ok (record { entries = entries; planned = plan_behind parents [] es })
