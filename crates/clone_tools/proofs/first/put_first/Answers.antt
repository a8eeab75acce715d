use Rattle.std.proofs.Common.{Result, OnOk, inl, inr, refl, sym, subst, ◌∙◌}
use Rattle.std.proofs.lemmas.Result.{IfErr-weaker, err_from_is_err_and}
use Rattle.tool_words.specs.declared.outcome.Outcome.{Outcome}
use Rattle.dump_tools.specs.Due.{Plan}
use Rattle.dump_tools.proofs.Counting.{alike, step_behind}
use Rattle.clone_tools.specs.Halves.{HasPut, HasPutPart}
use Rattle.clone_tools.proofs.first.put_first.Goals as goal

-- nothing was written before all was read
pub returns-in_err-work-clause-part : goal.returns-in_err-work-clause-part
returns-in_err-work-clause-part g c =
    let p = err_from_is_err_and c.from_residual.result c.from_residual.ensures.1 in
    rw (p.1, p.2) (λ tree known. inl (record { is_due = c.in_err-work.ensures.due tree known; kept = c.in_err-work.ensures.kept; quiet = refl }))

-- then the dump that is due was
pub returns-clause-whole : goal.returns-clause-whole
returns-clause-whole g c = λ tree known.
    subst (λ (d : Result Plan Outcome). OnOk c.write_work.result (HasPut d (g.F.Files.tree c.args.files.now) (g.F.Files.tree c.write_work.new.files) (g.O.Sink.written c.args.out.now) (g.O.Sink.written c.write_work.new.out)))
    (sym (c.in_ok-work.ensures.due tree known))
    (rw c.in_ok-work.ensures.kept at (c.write_work.ensures.whole tree (c.in_ok-work.ensures.kept ∙ known) (c.in_ok-work.ensures.ready tree known)))

pub returns-clause-part : goal.returns-clause-part
returns-clause-part g c = λ tree known.
    IfErr-weaker c.write_work.result _ _ (λ outcome h. inr
    (subst (λ (d : Result Plan Outcome). HasPutPart outcome d (g.F.Files.tree c.args.files.now) (g.F.Files.tree c.write_work.new.files) (g.O.Sink.written c.args.out.now) (g.O.Sink.written c.write_work.new.out))
    (sym (c.in_ok-work.ensures.due tree known)) (rw c.in_ok-work.ensures.kept at h)))
    (c.write_work.ensures.part tree (c.in_ok-work.ensures.kept ∙ known) (c.in_ok-work.ensures.ready tree known))

pub returns-clause-counted : goal.returns-clause-counted
returns-clause-counted g c = λ inputs lines.
    step_behind c.write_work.result _ _ _
    (alike _ _ inputs inputs _ _ _ _ _ _ c.in_ok-work.ensures.read_count refl c.in_ok-work.ensures.write_count refl refl)
    (c.write_work.ensures.counted inputs lines)
