use Rattle.std.proofs.Common.{sym, ap, ◌∙◌, rules}
use Rattle.std.specs.Option.{option_copied_mut}
use Rattle.plan_waits.proofs.Listing.{listed_stays, some_listed}
use Rattle.plan_waits.proofs.index.add_under.Goals as goal

pub returns-in-Some-clause-kept : goal.returns-in-Some-clause-kept
returns-in-Some-clause-kept c =
    let before = c.args.index.now in
    let places = c.push_place.new.places in
    listed_stays before (c.get_mut.follows.lender places) c.args.key.now places ((c.get_mut.follows.holds places).3 (search rules)).0
    (λ i h. c.push_place.ensures.kept i (some_listed before c.args.key.now i c.in-Some.places.now (sym c.get_mut.ensures.value ∙ ap option_copied_mut c.in-Some.is) h))
