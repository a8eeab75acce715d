-- The statements of entries in their places, by the laws of statements.
use Rattle.std.proofs.Common.{[]}
use Rattle.restore_plan.specs.Order.{foreign_keys}
use Rattle.restore_plan.proofs.Foreign.{Statements, given-opening}
use Rattle.restore_plan.proofs.Placed.{in-places}
use Rattle.restore_plan.proofs.laws.plans_stay_in_places.Goals as goal

pub returns : goal.returns
returns c =
    let laws : Statements = record {
      within = c.statements_stay_within_footprints.ensures;
      stays = c.only_writes_change.ensures;
    } in
    record {
      opening = given-opening;
      entries = λ boot opening es. in-places laws boot es (foreign_keys opening) [];
    }
