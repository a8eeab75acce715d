use Rattle.std.proofs.Common.{None, Ok, refl, ap, subst, ◌∙◌}
use Rattle.std.proofs.lemmas.Result.{on_err_weaker, err_from_is_err_and}
use Rattle.tool_words.specs.declared.words.Asked.{Asked}
use Rattle.tool_words.specs.Words.{asks_for_input}
use Rattle.tool_words.proofs.Lining.{always_err}
use Rattle.dump_tools.specs.Due.{asked_due}
use Rattle.dump_tools.specs.Inputs.{where_read, TellsLeft}
use Rattle.dump_tools.proofs.Counting.{counted_reading}
use Rattle.dump_tools.proofs.Putting.{cut_kept, cut_due, due_asked}
use Rattle.dump_tools.proofs.Scripting.{reads_asked}
use Rattle.dump_tools.proofs.Taking.{cut_still}
use Rattle.dump_tools.proofs.tools.perform.Goals as goal

-- reading the words reads no file
pub returns-in_err-asked-clause-counted : goal.returns-in_err-asked-clause-counted
returns-in_err-asked-clause-counted g c =
    let p = err_from_is_err_and c.from_residual.result c.from_residual.ensures.1 in
    rw (p.1, p.2) (counted_reading Asked _ _ _ _ _ _ _ _ _ _ _ (c.in_err-asked.ensures.count (g.F.Files.read_faults c.args.files.now)) refl refl refl refl)

pub returns-in_err-asked-clause-cut : goal.returns-in_err-asked-clause-cut
returns-in_err-asked-clause-cut g c = always_err c.from_residual.result (λ teller tree bytes known tells. cut_still _ teller _ _)

-- psql prints nothing
pub returns-in-Psql-clause-cut : goal.returns-in-Psql-clause-cut
returns-in-Psql-clause-cut g c =
    let reads = reads_asked c.args.words.now c.in_ok-asked.asked c.in_ok-asked.ensures.due ∙ ap asks_for_input c.in-Psql.is in
    on_err_weaker c.psql.result (λ cut teller tree bytes known tells.
    cut_due teller _ _ _ _ _ _ (ap (λ b. where_read b bytes) reads)
    (due_asked c.args.words.now c.args.moment tree bytes c.in_ok-asked.asked c.in_ok-asked.ensures.due ∙ ap (λ (asked : Asked). asked_due asked c.args.moment tree bytes) c.in-Psql.is)
    (cut teller tree bytes (g.O.Sink.written c.args.out.now) known (subst (λ b. TellsLeft b (g.I.Source.left c.args.input.now) bytes) reads tells)))
    c.psql.ensures.cut

-- pg_dump takes nothing off standard input
pub returns-in-Dump-clause-cut : goal.returns-in-Dump-clause-cut
returns-in-Dump-clause-cut g c =
    let reads = reads_asked c.args.words.now c.in_ok-asked.asked c.in_ok-asked.ensures.due ∙ ap asks_for_input c.in-Dump.is in
    on_err_weaker c.pg_dump.result (λ cut teller tree bytes known tells.
    cut_due teller _ _ _ _ _ _ (ap (λ b. where_read b bytes) reads)
    (due_asked c.args.words.now c.args.moment tree bytes c.in_ok-asked.asked c.in_ok-asked.ensures.due ∙ ap (λ (asked : Asked). asked_due asked c.args.moment tree bytes) c.in-Dump.is)
    (cut teller tree (g.I.Source.left c.args.input.now) known))
    c.pg_dump.ensures.cut

-- pg_restore of a list or a script tells nothing
pub returns-in-Archive-clause-cut : goal.returns-in-Archive-clause-cut
returns-in-Archive-clause-cut g c =
    let reads = reads_asked c.args.words.now c.in_ok-asked.asked c.in_ok-asked.ensures.due ∙ ap asks_for_input c.in-Archive.is in
    on_err_weaker c.pg_restore.result (λ cut teller tree bytes known tells.
    cut_due teller _ _ _ _ _ _ (ap (λ b. where_read b bytes) reads)
    (due_asked c.args.words.now c.args.moment tree bytes c.in_ok-asked.asked c.in_ok-asked.ensures.due ∙ ap (λ (asked : Asked). asked_due asked c.args.moment tree bytes) c.in-Archive.is)
    (cut teller tree bytes (g.E.Sink.written c.args.err.now) known (subst (λ b. TellsLeft b (g.I.Source.left c.args.input.now) bytes) reads tells)))
    c.pg_restore.ensures.cut

-- pg_restore into a folder prints nothing
pub returns-in-Restore-clause-cut : goal.returns-in-Restore-clause-cut
returns-in-Restore-clause-cut g c =
    let reads = reads_asked c.args.words.now c.in_ok-asked.asked c.in_ok-asked.ensures.due ∙ ap asks_for_input c.in-Restore.is in
    on_err_weaker c.restore_into.result (λ cut teller tree bytes known tells.
    cut_due teller _ _ _ _ _ _ (ap (λ b. where_read b bytes) reads)
    (due_asked c.args.words.now c.args.moment tree bytes c.in_ok-asked.asked c.in_ok-asked.ensures.due ∙ ap (λ (asked : Asked). asked_due asked c.args.moment tree bytes) c.in-Restore.is)
    (cut teller tree bytes (g.O.Sink.written c.args.out.now) known (subst (λ b. TellsLeft b (g.I.Source.left c.args.input.now) bytes) reads tells)))
    c.restore_into.ensures.cut

-- pg_catcmp puts out nothing
pub returns-in-Compare-clause-cut : goal.returns-in-Compare-clause-cut
returns-in-Compare-clause-cut g c =
    let reads = reads_asked c.args.words.now c.in_ok-asked.asked c.in_ok-asked.ensures.due ∙ ap asks_for_input c.in-Compare.is in
    always_err c.pg_catcmp.result (λ teller tree bytes known tells.
    cut_due teller _ None _ _ _ _ (ap (λ b. where_read b bytes) reads) refl (cut_kept teller _ _ _ _ _ _ c.pg_catcmp.ensures.kept))

-- the words don't ask for a dump into its folder
pub pg_dump-requires : goal.pg_dump-requires
pg_dump-requires g c = c.a_dump_is_written_outside_of_its_folder.ensures c.args.words.now c.in-Dump.asked (c.in_ok-asked.ensures.due ∙ ap (λ (a : Asked). Ok a) c.in-Dump.is)
