use Rattle.std.proofs.Common.{ℕ}
use Rattle.dump_archives.specs.Customs.{unplaced_out}
use Rattle.dump_outputs.proofs.PieceLemmas.{counts_whole, counts_stop}
use Rattle.dump_outputs.proofs.FormLemmas.{bad_stop, custom_whole, custom_part}
use Rattle.dump_outputs.proofs.writing.write_custom.Goals as goal

pub returns-in-Ok-clause-ok : goal.returns-in-Ok-clause-ok
returns-in-Ok-clause-ok g c = λ tree known apart.
    let h = c.in-Ok.ensures.ok tree known apart in
    (h.0, custom_whole tree c.args.target.now c.args.head.now c.args.entries.now c.args.needed.now _ _ h.0 h.2)

pub returns-in-Err-clause-err : goal.returns-in-Err-clause-err
returns-in-Err-clause-err g c = λ tree known apart.
    let h = c.in-Err.ensures.err tree known apart in (
      bad_stop tree c.args.needed.now (unplaced_out tree c.args.head.now c.args.entries.now c.args.needed.now) c.in-Err.stop h.0,
      custom_part tree c.args.target.now c.args.head.now c.args.entries.now c.args.needed.now _ _ h.1,
    )

pub returns-in-Ok-clause-write_count : goal.returns-in-Ok-clause-write_count
returns-in-Ok-clause-write_count g c = counts_whole {Y = ℕ} _ 0 c.args.target.now _ _ _ _ c.in-Ok.ensures.write_count

pub returns-in-Err-clause-write_count : goal.returns-in-Err-clause-write_count
returns-in-Err-clause-write_count g c = counts_stop ℕ (Unit {0}) c.args.target.now c.in-Err.stop _ _ _ _ c.in-Err.ensures.write_count
