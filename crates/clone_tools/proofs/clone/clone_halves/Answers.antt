use Rattle.std.proofs.Common.{Result, subst, ◌∙◌}
use Rattle.std.proofs.lemmas.Result.{IfOk-weaker, IfErr-weaker}
use Rattle.clone_restores.specs.Due.{Restoration}
use Rattle.clone_restores.specs.Standing.{WasRestored, IsNotRestored}
use Rattle.clone_tools.specs.Due.{first_due, all_put, second_due, clone_due}
use Rattle.clone_tools.proofs.Joining.{known_between, clones, cloned}
use Rattle.clone_tools.proofs.Second.{came, final_answer}
use Rattle.clone_tools.proofs.Telling.{first_put, first_not_put, same_second, untold_first, untold_second}
use Rattle.dump_tools.proofs.Counting.{step_behind}
use Rattle.dump_tools.proofs.Restored.{step_restore}
use Rattle.tool_words.specs.declared.outcome.Outcome.{Outcome}
use Rattle.tool_words.specs.Messages.{teller_name}
use Rattle.clone_tools.proofs.clone.clone_halves.Goals as goal

-- the dump was written, and what was due with it was done
pub returns-in-Ok-clause-done : goal.returns-in-Ok-clause-done
returns-in-Ok-clause-done g c = λ asked halves.
    let a = c.args in
    let name = teller_name a.teller in
    IfOk-weaker c.restore_written.result _ _ (λ answer done tree left known.
    let h = first_put asked a.moment tree a.halves.dump _ _ _ _ halves.dump (c.in-Ok.ensures.whole tree known) in
    let between = all_put h.first.pieces tree in
    cloned a.teller (clone_due name asked a.moment tree) (first_due asked a.moment tree) (second_due name asked between) answer _ _ _ left _ _ _ _ h
    (clones name asked a.moment tree h.first h.is_due)
    (came a.teller (second_due name asked between) answer _ _ left _ _ _
    (subst (λ (d : Result Restoration Outcome). WasRestored d answer (g.F.Files.tree c.put_first.new.files) (g.F.Files.tree c.restore_written.new.files) (g.E.Sink.written a.err.now) (g.E.Sink.written c.restore_written.new.err))
    (same_second asked a.halves _ _ between halves (c.as_bytes-name.ensures.value ∙ c.name.ensures))
    (done between (known_between _ tree _ _ _ _ h known)))))
    c.restore_written.ensures.done

-- the dump wasn't written, or not to its end
pub returns-clause-untold : goal.returns-clause-untold
returns-clause-untold g c = λ asked halves tree left known.
    untold_first c.args.teller (teller_name c.args.teller) asked c.args.moment tree c.in-Err.outcome _ _ left _ _ _
    (first_not_put asked c.args.moment tree c.args.halves.dump c.in-Err.outcome _ _ _ _ halves.dump (c.in-Err.ensures.part tree known))

-- what was due with it wasn't done, or was cut short
pub returns-in-Ok-clause-untold : goal.returns-in-Ok-clause-untold
returns-in-Ok-clause-untold g c = λ asked halves.
    let a = c.args in
    let name = teller_name a.teller in
    IfErr-weaker c.restore_written.result _ _ (λ outcome not tree left known.
    let h = first_put asked a.moment tree a.halves.dump _ _ _ _ halves.dump (c.in-Ok.ensures.whole tree known) in
    let between = all_put h.first.pieces tree in
    untold_second a.teller (clone_due name asked a.moment tree) (first_due asked a.moment tree) (second_due name asked between) outcome _ _ _ left _ _ _ _ h
    (clones name asked a.moment tree h.first h.is_due)
    (subst (λ (d : Result Restoration Outcome). IsNotRestored outcome d (g.F.Files.tree c.put_first.new.files) (g.F.Files.tree c.restore_written.new.files) (g.E.Sink.written a.err.now) (g.E.Sink.written c.restore_written.new.err))
    (same_second asked a.halves _ _ between halves (c.as_bytes-name.ensures.value ∙ c.name.ensures))
    (not between (known_between _ tree _ _ _ _ h known))))
    c.restore_written.ensures.undone

pub returns-in-Ok-clause-counted : goal.returns-in-Ok-clause-counted
returns-in-Ok-clause-counted g c = λ inputs.
    step_behind c.restore_written.result _ _ _ (c.in-Ok.ensures.counted inputs _)
    (step_restore c.restore_written.result _ _ inputs _ _ _ _ _ c.restore_written.ensures.read_count c.restore_written.ensures.write_count)

pub returns-in-Ok-clause-ends : goal.returns-in-Ok-clause-ends
returns-in-Ok-clause-ends g c = IfOk-weaker c.restore_written.result _ _ final_answer c.restore_written.ensures.ends
