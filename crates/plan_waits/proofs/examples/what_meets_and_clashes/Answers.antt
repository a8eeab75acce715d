use Rattle.std.proofs.Common.{◌≡◌, List, ap}
use Rattle.restore_plan.specs.declared.planned.Planned.{Planned}
use Rattle.restore_plan.specs.Examples.{two_schemas, behind_rows}
use Rattle.restore_plan.specs.Order.{before_at, clash_at}
use Rattle.plan_waits.proofs.NoKeys.{plan-is}
use Rattle.plan_waits.proofs.examples.what_meets_and_clashes.Goals as goal

pub returns : goal.returns
returns c = record {
  schemas = ap (λ (ps : List Planned). before_at ps 0 1) (plan-is two_schemas);
  constraints = ap (λ (ps : List Planned). clash_at ps 4 5) (plan-is behind_rows);
  index = ap (λ (ps : List Planned). clash_at ps 3 4) (plan-is behind_rows);
}
