use Rattle.std.proofs.Common.{List, length, ap, ◌∙◌}
use Rattle.std.specs.List.{slice_get}
use Rattle.restore_plan.specs.declared.step.Step.{Step}
use Rattle.restore_core.specs.Machine.{phase_behind, ran_next}
use Rattle.restore_board.proofs.stepping.go_on.Goals as goal

pub returns-clause-gone : goal.returns-clause-gone
returns-clause-gone c = λ x e.
    let u = ran_next c.args.engine.now.boot c.args.engine.now.named x c.args.run (slice_get c.args.planned.now.steps c.args.run) in
    let ran = c.in_ok-ran.ensures.ran x e in
    record {
      catalogue = ran.catalogue;
      behind =
          c.phase_behind.ensures u u.refused ran.ran ran.refusal
          ∙ ap (λ (ss : List Step). phase_behind c.args.worker (length ss) u u.refused) c.as_slice.ensures;
      more = ran.more;
      put = ran.put;
      noted = ran.noted;
    }
