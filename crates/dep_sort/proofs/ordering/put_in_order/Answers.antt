use Rattle.std.proofs.Common.{map}
use Rattle.dep_sort.proofs.Dues.{sorted_is}
use Rattle.dep_sort.proofs.ordering.put_in_order.Goals as goal

pub returns : goal.returns
returns c =
    sorted_is c.args.cut.now c.in_ok-objects.objects.items (map (λ d. d.items) c.in_ok-depends.depends.items) c.args.places.now c.objects-given.result.now c.arcs.result.now c.requires.value c.objects-given.ensures.value c.arcs.ensures c.in_ok-objects.ensures.value c.in_ok-depends.ensures.value
