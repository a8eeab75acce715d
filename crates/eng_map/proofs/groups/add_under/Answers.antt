use Rattle.std.proofs.Common.{sym, ap, ◌∙◌, rules}
use Rattle.std.specs.Option.{option_copied_mut}
use Rattle.eng_map.proofs.Listing.{listed_stays, some_listed}
use Rattle.eng_map.proofs.groups.add_under.Goals as goal

pub returns-in-Some-clause-kept : goal.returns-in-Some-clause-kept
returns-in-Some-clause-kept c =
    let before = c.args.groups.now in
    let keys = c.add_to.new.keys in
    listed_stays before (c.get_mut.follows.lender keys) c.args.group.now keys ((c.get_mut.follows.holds keys).3 (search rules)).0
    (λ k h. c.add_to.ensures.kept k (some_listed before c.args.group.now k c.in-Some.keys.now (sym c.get_mut.ensures.value ∙ ap option_copied_mut c.in-Some.is) h))
