use Rattle.std.proofs.Common.{ap, ◌∙◌}
use Rattle.std.specs.BTreeMap.{get}
use Rattle.cat_model.specs.Keys.{key_cmp}
use Rattle.eng_map.proofs.Listing.{listed_stays, none_listed}
use Rattle.eng_map.proofs.groups.add_first.Goals as goal

pub returns-clause-kept : goal.returns-clause-kept
returns-clause-kept c =
    let before = c.args.groups.now in
    listed_stays before c.insert.new.self c.in_ok-clone.field-0 c.add_to.new.keys c.in_ok-insert.ensures.updates.0
    (λ k h. none_listed before c.in_ok-clone.field-0 k (ap (get key_cmp before) c.in_ok-clone.ensures.cases ∙ c.requires) h)
