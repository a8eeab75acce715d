use Rattle.std.proofs.Common.{◌+◌, List, subst}
use Rattle.graph_walks.specs.Arcs.{Arc}
use Rattle.graph_walks.specs.Starts.{AreStarts}
use Rattle.graph_walks.proofs.Found.{are_found}
use Rattle.graph_walks.proofs.Permuted.{permuted_alike}
use Rattle.graph_walks.proofs.arcs.Arcs.of.Goals as goal

pub invariant_of-result : goal.invariant_of-result
invariant_of-result c =
    are_found _ _ _ _ c.requires.few c.requires.within c.in_ok-sort.ensures.permutation c.in_ok-sort.ensures.sorted
    (subst (λ (l : List Arc). AreStarts l (c.args.count + 1) c.in_ok-starts.starts.items) c.deref.ensures.value c.in_ok-starts.ensures)

pub returns-clause-alike : goal.returns-clause-alike
returns-clause-alike c = permuted_alike _ _ _ c.in_ok-sort.ensures.permutation
