use Rattle.std.proofs.Common.{ℕ, length, replicate, refl, sym, ap, ◌∙◌}
use Rattle.std.proofs.lemmas.List.{length-replicate}
use Rattle.graph_walks.specs.declared.components.Status.TheVariants.{New}
use Rattle.graph_walks.proofs.Standings.{search_starts}
use Rattle.graph_walks.proofs.components.Search.new.Goals as goal

pub returns-clause-stands : goal.returns-clause-stands
returns-clause-stands c =
    λ net is.
    search_starts net _
    (c.in_ok-vec.ensures.items_if_clones_equal (λ y e. e) ∙ ap (λ (k : ℕ). replicate k New) (sym is))
    (ap length (c.in_ok-vec-2.ensures.items_if_clones_equal (λ y e. e)) ∙ length-replicate c.args.count 0 ∙ sym is)
    refl c.new.ensures.items c.new-2.ensures.items c.new-3.ensures.items
