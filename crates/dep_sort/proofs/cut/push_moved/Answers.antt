use Rattle.std.proofs.Common.{◌≡◌, ◌++◌, List, OnOk, subst, ◌∙◌, sym}
use Rattle.graph_walks.specs.Arcs.{Arc}
use Rattle.dep_sort.proofs.Left.{moved_none, moved_some, moved_shared}
use Rattle.dep_sort.proofs.cut.push_moved.Goals as goal

pub returns-in_default : goal.returns-in_default
returns-in_default c =
    subst (λ (l : List Arc). OnOk c.push_all.result (c.push_all.new.arcs.items ≡ c.args.arcs.now.items ++ l))
    (moved_none c.args.count c.args.made.now c.args.edge.now (sym c.taker.ensures.value ∙ c.in_default.is)) c.push_all.ensures

pub returns-then-edge : goal.returns-then-edge
returns-then-edge c =
    subst (λ (l : List Arc). OnOk c.push_all-then-edge.result (c.push_all-then-edge.new.arcs.items ≡ c.args.arcs.now.items ++ l))
    (moved_shared c.args.count c.args.made.now c.args.edge.now c.in-Some.at (sym c.taker.ensures.value ∙ c.in-Some.is) c.if-edge.true) c.push_all-then-edge.ensures

pub returns-else-edge : goal.returns-else-edge
returns-else-edge c =
    subst (λ (l : List Arc). OnOk c.push_all-else-edge.result (c.push_all-else-edge.new.arcs.items ≡ c.args.arcs.now.items ++ l))
    (moved_some c.args.count c.args.made.now c.args.edge.now c.in-Some.at (sym c.taker.ensures.value ∙ c.in-Some.is) c.if-edge.false) c.push_all-else-edge.ensures
