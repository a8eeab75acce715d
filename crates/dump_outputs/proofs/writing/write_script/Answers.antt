use Rattle.std.proofs.Common.{ℕ, [], ◌∙◌}
use Rattle.dump_plain.specs.Dumps.{plain_out}
use Rattle.dump_outputs.proofs.PieceLemmas.{one_out, begun_out, counts_whole, counts_stop}
use Rattle.dump_outputs.proofs.FormLemmas.{bad_stop}
use Rattle.dump_outputs.proofs.writing.write_script.Goals as goal

pub returns-in-Ok-clause-ok : goal.returns-in-Ok-clause-ok
returns-in-Ok-clause-ok g c = λ tree known apart.
    let h = c.in-Ok.ensures.ok tree known apart in
    (h.0, h.2 ∙ one_out c.args.target.now _ _)

pub returns-in-Err-clause-err : goal.returns-in-Err-clause-err
returns-in-Err-clause-err g c = λ tree known apart.
    let h = c.in-Err.ensures.err tree known apart in
    let due = plain_out tree c.args.head.now c.args.owners c.args.entries.now c.args.needed.now in
    (bad_stop tree c.args.needed.now due c.in-Err.stop h.0, begun_out c.args.target.now due.text [] _ _ h.1)

pub returns-in-Ok-clause-write_count : goal.returns-in-Ok-clause-write_count
returns-in-Ok-clause-write_count g c = counts_whole {Y = ℕ} _ 0 c.args.target.now _ _ _ _ c.in-Ok.ensures.write_count

pub returns-in-Err-clause-write_count : goal.returns-in-Err-clause-write_count
returns-in-Err-clause-write_count g c = counts_stop ℕ (Unit {0}) c.args.target.now c.in-Err.stop _ _ _ _ c.in-Err.ensures.write_count
