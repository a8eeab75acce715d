use Rattle.std.proofs.Common.{subst, sym, Ok}
use Rattle.cat_model.specs.declared.stmt.Stmt.{Stmt}
use Rattle.cat_model.specs.Effects.{effect}
use Rattle.cat_model.specs.Trees.{outcome, seen}
use Rattle.eng_steps.specs.Outcomes.{Steps}
use Rattle.cat_engine.proofs.statements.changes_of.Goals as goal

pub returns-in-OwnerTo : goal.returns-in-OwnerTo
returns-in-OwnerTo c =
    subst (λ (what : Stmt). Steps c.owner_to.result (outcome (effect c.args.boot.now what) (seen c.args.named.now)) (λ changes. Ok changes.items))
    (sym c.in-OwnerTo.is) c.owner_to.ensures
