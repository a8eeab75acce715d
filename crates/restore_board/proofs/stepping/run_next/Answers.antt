use Rattle.std.proofs.Common.{◌≡◌, Option, Some, None, refl, ap, sym, subst, rules}
use Rattle.std.proofs.lemmas.Option.{gets}
use Rattle.std.proofs.lemmas.Result.{IfOk-weaker}
use Rattle.std.specs.List.{slice_get}
use Rattle.restore_plan.specs.declared.planned.Planned.{Planned}
use Rattle.restore_plan.specs.declared.step.Step.{Step}
use Rattle.restore_core.specs.Machine.{ran_next}
use Rattle.restore_board.specs.Ran.{HasRun}
use Rattle.restore_board.proofs.Stepped.{none-ran}
use Rattle.restore_board.proofs.stepping.run_next.Goals as goal

pub returns-in-Some-clause-ran : goal.returns-in-Some-clause-ran
returns-in-Some-clause-ran c =
    let is : slice_get c.args.planned.now.steps c.args.run ≡ Some c.in-Some.step.now = search (rules, gets) in
    IfOk-weaker c.run_step.result _ _
    (λ n w x e.
    subst (λ (o : Option Step). HasRun (ran_next c.args.engine.now.boot c.args.engine.now.named x c.args.run o) c.run_step.new.engine.named n c.args.entry x.notes c.args.notes.now c.run_step.new.notes c.run_step.new.refused.items) (sym is)
    (w x (ap (λ (p : Planned). p.id) e)))
    c.run_step.ensures.ran

pub returns-in-None-clause-ran : goal.returns-in-None-clause-ran
returns-in-None-clause-ran c = λ x e.
    let is : slice_get c.args.planned.now.steps c.args.run ≡ None = search (rules, gets) in
    subst (λ (o : Option Step). HasRun (ran_next c.args.engine.now.boot c.args.engine.now.named x c.args.run o) c.args.engine.now.named c.args.run c.args.entry x.notes c.args.notes.now c.args.notes.now c.args.refused.now.items) (sym is)
    (none-ran c.args.engine.now.boot c.args.engine.now.named c.args.engine.now.named x c.args.run c.args.run c.args.entry c.args.notes.now c.args.notes.now c.args.refused.now.items refl refl refl c.requires.none)
