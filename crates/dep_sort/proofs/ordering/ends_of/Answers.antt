use Rattle.std.proofs.Common.{map, ap, ◌∙◌}
use Rattle.std.specs.Prelude.{nat_eq}
use Rattle.std.specs.List.{dedup}
use Rattle.std.proofs.lemmas.List.{take_all}
use Rattle.std.proofs.lemmas.List.Filters.{dedup_is}
use Rattle.graph_walks.specs.Arcs.{Arc}
use Rattle.dep_sort.proofs.ordering.ends_of.Goals as goal

pub returns : goal.returns
returns c =
    dedup_is nat_eq c.loop-arc.ends.items c.dedup.new.self.items c.dedup.ensures.filtered
    ∙ ap (dedup nat_eq) (c.loop-arc.invariant ∙ ap (map (λ (arc : Arc). arc.1)) (take_all c.loop-arc.arc-index c.args.arcs.now c.loop-arc-test.false))
