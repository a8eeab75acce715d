use Rattle.std.proofs.Common.{Bor, option_map, sym, ap, subst, ◌∙◌}
use Rattle.cat_model.specs.declared.key.Key.{Key}
use Rattle.cat_same.specs.Verdicts.{IsLeastDifference}
use Rattle.cat_same.proofs.Differences.{differs_at, same_where_none}
use Rattle.cat_same.proofs.compare.compare_maps.Goals as goal

pub returns-in_ok-clone-in-Some : goal.returns-in_ok-clone-in-Some
returns-in_ok-clone-in-Some c =
    subst (IsLeastDifference c.args.a.now c.args.b.now) (sym c.in_ok-clone-in-Some.ensures.cases)
    (differs_at c.args.a.now c.args.b.now _ _ c.in-Some.key.now c.first_difference-of_a.ensures c.first_difference-of_b.ensures (sym c.lesser.ensures ∙ ap (option_map (λ (k : Bor Key). k.now)) c.in-Some.is))

pub returns-in-None : goal.returns-in-None
returns-in-None c =
    same_where_none c.args.a.now c.args.b.now _ _ c.first_difference-of_a.ensures c.first_difference-of_b.ensures (sym c.lesser.ensures ∙ ap (option_map (λ (k : Bor Key). k.now)) c.in-None.is)
