use Rattle.std.proofs.Common.{◌≡◌, ℕ, ◌<◌, length, ◌∙◌, arith}
use Rattle.std.proofs.lemmas.List.{get_or_default}
use Rattle.graph_walks.specs.declared.components.Status.TheVariants.{New}
use Rattle.graph_walks.specs.Searching.{Standing, standing, status_of}
use Rattle.graph_walks.proofs.Standings.{begins_looking, closed_all, not_new}
use Rattle.graph_walks.proofs.components.Search.begin.Goals as goal

pub open-requires-clause-looking : goal.open-requires-clause-looking
open-requires-clause-looking c =
    begins_looking c.args.arcs.now (standing c.args.self.now) c.args.place c.requires.stands c.requires.empty

pub returns-in_ok-finish-clause-closed : goal.returns-in_ok-finish-clause-closed
returns-in_ok-finish-clause-closed c =
    closed_all c.args.arcs.now (standing c.finish.new.self) c.args.place c.in_ok-finish.ensures.stands c.in_ok-finish.ensures.empty (c.in_ok-finish.ensures.come c.args.place c.in_ok-open.ensures.come)

pub returns-in_default : goal.returns-in_default
returns-in_default c =
    let net = c.args.arcs.now in
    let search : Standing = standing c.args.self.now in
    let y : ℕ = c.args.place in
    let small : y < net.count = c.requires.within in
    let long : length search.statuses ≡ net.count = c.requires.stands.statuses_count in
    let seen : c.index.result.now ≡ status_of search.statuses y = c.index.ensures ∙ get_or_default search.statuses y c.index.result.now New (omega arith) in
    record {
      stands = c.requires.stands;
      empty = c.requires.empty;
      closed = closed_all net search y c.requires.stands c.requires.empty (not_new (status_of search.statuses y) (λ h. c.in_default.not-New (seen ∙ h)));
      kept = λ x h. h;
    }
