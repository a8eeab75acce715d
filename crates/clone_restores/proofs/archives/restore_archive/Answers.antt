use Rattle.std.proofs.Common.{Result, refl, sym, subst, ◌∙◌, inl}
use Rattle.std.proofs.lemmas.Result.{IfOk-weaker, IfErr-weaker, err_from_is_err_and}
use Rattle.restore_folders.specs.Seen.{work_seen}
use Rattle.restore_folders.specs.Works.{ending_of}
use Rattle.restore_folders.specs.declared.refusal.OnRefusal.TheVariants.{GoOn}
use Rattle.restore_tools.proofs.Counting.{unread_count}
use Rattle.restore_tools.proofs.Ends.{both_ok}
use Rattle.tool_words.specs.declared.outcome.Outcome.{Outcome}
use Rattle.clone_restores.specs.Due.{Restoration, archive_plan}
use Rattle.clone_restores.specs.Standing.{IsNotRestored}
use Rattle.clone_restores.proofs.Ends.{made_of, unmade_unfailed}
use Rattle.clone_restores.proofs.Steps.{archive_read, archive_refused}
use Rattle.clone_restores.proofs.archives.restore_archive.Goals as goal

-- not all was read
pub returns-in_err-work-clause-undone : goal.returns-in_err-work-clause-undone
returns-in_err-work-clause-undone g c =
    let a = c.args in
    let p = err_from_is_err_and c.from_residual.result c.from_residual.ensures.1 in
    rw (p.1, p.2) (λ tree known. inl (record {
      answers = inl (archive_refused _ a.teller.now a.owners a.folder.now a.path.now a.format tree (c.in_err-work.ensures.due tree known));
      kept = c.in_err-work.ensures.kept;
      silent = refl;
    }))

-- no failed call ends what comes then
pub finish-requires : goal.finish-requires
finish-requires g c =
    let w = c.in_ok-work.work in
    IfErr-weaker c.run_archive.result _ _ (unmade_unfailed w.opening.cat (ending_of GoOn c.args.teller.now (work_seen w)).left) c.run_archive.ensures.unwritten

-- the entries were carried out
pub returns-clause-done : goal.returns-clause-done
returns-clause-done g c =
    let a = c.args in
    let plan = archive_plan a.teller.now a.folder.now (work_seen c.in_ok-work.work) in
    let made = made_of plan c.run_archive.result c.run_archive.ensures.stand c.run_archive.ensures.told c.run_archive.ensures.errors in
    IfOk-weaker c.finish.result _ _ (λ answer h tree known. record {
      plan = plan;
      is_due = archive_read a.teller.now a.owners a.folder.now a.path.now a.format tree (work_seen c.in_ok-work.work) (c.in_ok-work.ensures.due tree known);
      answers = h.0;
      carried = rw c.in_ok-work.ensures.kept at h.1;
    }) (both_ok c.finish.result _ _ (c.finish.ensures.answers plan made) (c.finish.ensures.ok plan refl made))

pub returns-clause-undone : goal.returns-clause-undone
returns-clause-undone g c =
    let a = c.args in
    let plan = archive_plan a.teller.now a.folder.now (work_seen c.in_ok-work.work) in
    let made = made_of plan c.run_archive.result c.run_archive.ensures.stand c.run_archive.ensures.told c.run_archive.ensures.errors in
    IfErr-weaker c.finish.result _ _ (λ outcome not tree known.
    subst (λ (d : Result Restoration Outcome). IsNotRestored outcome d (g.F.Files.tree a.files.now) (g.F.Files.tree c.finish.new.files) (g.E.Sink.written a.err.now) (g.E.Sink.written c.finish.new.err))
    (sym (archive_read a.teller.now a.owners a.folder.now a.path.now a.format tree (work_seen c.in_ok-work.work) (c.in_ok-work.ensures.due tree known)))
    (rw c.in_ok-work.ensures.kept at not))
    (c.finish.ensures.undone plan refl made c.run_archive.ensures.unwritten)

pub returns-clause-read_count : goal.returns-clause-read_count
returns-clause-read_count g c = unread_count c.finish.result _ _ c.finish.ensures.unread (c.finish.ensures.read_count ∙ c.in_ok-work.ensures.read_count)

pub returns-clause-write_count : goal.returns-clause-write_count
returns-clause-write_count g c = rw c.in_ok-work.ensures.write_count at c.finish.ensures.write_count
