use Rattle.std.proofs.Common.{◌≡◌, ℕ, List, length, get_or, map, sym, ap, subst, ◌∙◌}
use Rattle.std.proofs.lemmas.Result.{IfOk-weaker}
use Rattle.graph_walks.specs.Alike.{AreAlike}
use Rattle.graph_walks.specs.Arcs.{Arc, AreWithin}
use Rattle.graph_walks.specs.Starts.{Net}
use Rattle.dep_sort.specs.FirstOrder.{renumbered}
use Rattle.dep_sort.proofs.Ranks.{renumbered_is, renumbered_within}
use Rattle.dep_sort.proofs.cut_graph.renumber.Goals as goal

pub of-requires-clause-within : goal.of-requires-clause-within
of-requires-clause-within c =
    let places : List ℕ = c.args.places.now in
    let arcs : List Arc = c.args.arcs.now in
    let ends : c.in_ok-ends.ends.items ≡ renumbered places arcs =
    c.in_ok-ends.ensures
    ∙ ap (λ (l : List ℕ). map (λ (arc : Arc). (get_or l arc.0 0, get_or l arc.1 0)) arcs) c.deref.ensures.value
    ∙ renumbered_is places c.in_ok-ranks.ranks.items arcs c.in_ok-ranks.ensures.each c.requires.within in
    subst (AreWithin (length places)) (sym ends) (renumbered_within places arcs c.requires.within)

pub returns-clause-alike : goal.returns-clause-alike
returns-clause-alike c =
    let places : List ℕ = c.args.places.now in
    let arcs : List Arc = c.args.arcs.now in
    let ends : c.in_ok-ends.ends.items ≡ renumbered places arcs =
    c.in_ok-ends.ensures
    ∙ ap (λ (l : List ℕ). map (λ (arc : Arc). (get_or l arc.0 0, get_or l arc.1 0)) arcs) c.deref.ensures.value
    ∙ renumbered_is places c.in_ok-ranks.ranks.items arcs c.in_ok-ranks.ensures.each c.requires.within in
    IfOk-weaker c.of.result (λ (net : Net). AreAlike (length places) c.in_ok-ends.ends.items net.arcs) (λ (net : Net). AreAlike (length places) (renumbered places arcs) net.arcs)
    (λ net h. subst (λ (l : List Arc). AreAlike (length places) l net.arcs) ends h)
    c.of.ensures.alike
