use Rattle.std.proofs.Common.{◌≡◌, List, ap}
use Rattle.restore_plan.specs.declared.planned.Planned.{Planned}
use Rattle.restore_plan.specs.Examples.{parents_first, children_first, equal_parents}
use Rattle.restore_plan.specs.Order.{before_at}
use Rattle.plan_waits.proofs.NoKeys.{plan-is}
use Rattle.plan_waits.proofs.examples.rows_wait_for_parents.Goals as goal

pub returns : goal.returns
returns c = record {
  key_first = ap (λ (ps : List Planned). before_at ps 4 5) (plan-is parents_first);
  children_first = ap (λ (ps : List Planned). before_at ps 4 5) (plan-is children_first);
  key_later = ap (λ (ps : List Planned). before_at ps 2 3) (plan-is equal_parents);
  tables = ap (λ (ps : List Planned). before_at ps 0 1) (plan-is parents_first);
  later = ap (λ (ps : List Planned). before_at ps 5 4) (plan-is parents_first);
}
