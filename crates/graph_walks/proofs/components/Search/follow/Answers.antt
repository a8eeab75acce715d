use Rattle.std.proofs.Common.{◌≡◌, ℕ, ◌<◌, length, get_or, sym, ap, subst, ◌∙◌, arith}
use Rattle.std.proofs.lemmas.List.{get_or_default}
use Rattle.graph_walks.specs.declared.components.Status.TheVariants.{New, Open, Closed}
use Rattle.graph_walks.specs.Searching.{Standing, standing, IsLooking, status_of, is_closed}
use Rattle.graph_walks.proofs.Standings.{search_taken, taken_within, looked_at_closed}
use Rattle.graph_walks.proofs.components.Search.follow.Goals as goal

pub open-requires-clause-looking : goal.open-requires-clause-looking
open-requires-clause-looking c =
    search_taken c.args.arcs.now (standing c.args.self.now) c.pop.new.self.items c.in-Some.place c.requires.stands c.requires.todo c.in-Some.ensures.items

pub join-requires : goal.join-requires
join-requires c =
    let net = c.args.arcs.now in
    let search : Standing = standing c.args.self.now in
    let y : ℕ = c.in-Some.place in
    let low : y < net.count = taken_within net search c.pop.new.self.items y c.requires.stands c.in-Some.ensures.items in
    let long : length search.statuses ≡ net.count = c.requires.stands.statuses_count in
    let status : status_of search.statuses y ≡ Open c.in-Open.at = sym (c.index.ensures ∙ get_or_default search.statuses y c.index.result.now New (omega arith)) ∙ c.in-Open.is in
    c.requires.stands.opened.below y c.in-Open.at status

pub returns-in-Open-clause-stands : goal.returns-in-Open-clause-stands
returns-in-Open-clause-stands c =
    let net = c.args.arcs.now in
    let search : Standing = standing c.args.self.now in
    let y : ℕ = c.in-Some.place in
    let low : y < net.count = taken_within net search c.pop.new.self.items y c.requires.stands c.in-Some.ensures.items in
    let long : length search.statuses ≡ net.count = c.requires.stands.statuses_count in
    let status : status_of search.statuses y ≡ Open c.in-Open.at = sym (c.index.ensures ∙ get_or_default search.statuses y c.index.result.now New (omega arith)) ∙ c.in-Open.is in
    let at : get_or search.path c.in-Open.at 0 ≡ y = c.requires.stands.opened.place y c.in-Open.at status in
    let left : Standing = record search { pending = c.pop.new.self.items } in
    c.join.ensures.stands net
    (subst (λ (n : ℕ). IsLooking net n left) (sym at) (search_taken net search c.pop.new.self.items y c.requires.stands c.requires.todo c.in-Some.ensures.items))

pub returns-in-Closed-clause-stands : goal.returns-in-Closed-clause-stands
returns-in-Closed-clause-stands c =
    let net = c.args.arcs.now in
    let search : Standing = standing c.args.self.now in
    let y : ℕ = c.in-Some.place in
    let low : y < net.count = taken_within net search c.pop.new.self.items y c.requires.stands c.in-Some.ensures.items in
    let long : length search.statuses ≡ net.count = c.requires.stands.statuses_count in
    let status : status_of search.statuses y ≡ Closed = sym (c.index.ensures ∙ get_or_default search.statuses y c.index.result.now New (omega arith)) ∙ c.in-Closed.is in
    let left : Standing = record search { pending = c.pop.new.self.items } in
    looked_at_closed net left y (search_taken net search c.pop.new.self.items y c.requires.stands c.requires.todo c.in-Some.ensures.items) (ap is_closed status)
