use Rattle.std.proofs.Common.{◌≡◌, ◌+◌, ◌≤◌, arith, length, List, [], Bool, drop, sym, ap, ◌∙◌}
use Rattle.std.specs.Prelude.{if◌then◌else◌}
use Rattle.std.specs.Option.{option_map_or}
use Rattle.graph_parts.specs.declared.object.Obj.{Obj}
use Rattle.graph_parts.specs.declared.graph.Edge.{Edge}
use Rattle.dep_sort.specs.Cut.{made_once, made_by}
use Rattle.dep_sort.proofs.Making.{made_more, made_all, breaks_at, by_few}
use Rattle.dep_sort.proofs.made.Made.of.Goals as goal

pub loop-place-preserved : goal.loop-place-preserved
loop-place-preserved c =
    let all : List Edge = c.args.edges.now in
    let edge : Edge = c.index-edges-place.result in
    let so_far : List Obj = c.loop-place.made in
    let rest : List Edge = drop (c.loop-place.place + 1) all in
    ap (made_by all rest) c.in_ok-make_for.ensures
    ∙ ap (λ (b : Bool). made_by all rest (if b then option_map_or (made_once so_far) edge.moves_to so_far else so_far)) (breaks_at all all c.args.breaking.now c.loop-place.place edge _ c.requires c.loop-place-test.true c.index-edges-place.is)
    ∙ sym (made_more all all c.loop-place.place edge so_far c.loop-place-test.true c.index-edges-place.is)
    ∙ c.loop-place.invariant

pub returns-clause-value : goal.returns-clause-value
returns-clause-value c = made_all c.args.edges.now c.loop-place.place c.loop-place.made c.loop-place-test.false ∙ c.loop-place.invariant

pub returns-clause-few : goal.returns-clause-few
returns-clause-few c =
    let is : c.loop-place.made ≡ made_by c.args.edges.now c.args.edges.now [] = made_all c.args.edges.now c.loop-place.place c.loop-place.made c.loop-place-test.false ∙ c.loop-place.invariant in
    let few : length (made_by c.args.edges.now c.args.edges.now []) ≤ length (let none : List Obj = [] in none) + length c.args.edges.now = by_few c.args.edges.now c.args.edges.now [] in
    rw is (omega arith)
