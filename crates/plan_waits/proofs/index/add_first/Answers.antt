use Rattle.std.proofs.Common.{ap, ◌∙◌}
use Rattle.std.specs.BTreeMap.{get}
use Rattle.cat_model.specs.Keys.{key_cmp}
use Rattle.plan_waits.proofs.Listing.{listed_stays, none_listed}
use Rattle.plan_waits.proofs.index.add_first.Goals as goal

pub returns-clause-kept : goal.returns-clause-kept
returns-clause-kept c =
    let before = c.args.index.now in
    listed_stays before c.insert.new.self c.in_ok-clone.field-0 c.push_place.new.places c.in_ok-insert.ensures.updates.0
    (λ i h. none_listed before c.in_ok-clone.field-0 i (ap (get key_cmp before) c.in_ok-clone.ensures.cases ∙ c.requires) h)
