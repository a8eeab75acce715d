use Rattle.std.proofs.Common.{subst, sym}
use Rattle.cat_model.specs.ObjectEffects.{needs_commented}
use Rattle.cat_model.specs.Trees.{outcome, seen}
use Rattle.eng_steps.specs.Outcomes.{Steps}
use Rattle.object_effects.proofs.objects.needs_commented.Goals as goal

pub returns-in-Column : goal.returns-in-Column
returns-in-Column c next =
    subst (λ what. Steps c.needs_column.result (outcome (needs_commented what next) (seen c.args.named.now)) (λ _. outcome next (seen c.args.named.now)))
    (sym c.in-Column.is) (c.needs_column.ensures next)
