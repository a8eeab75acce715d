use Rattle.std.proofs.Common.{None}
use Rattle.dump_outputs.specs.Forms.{one_piece}
use Rattle.dump_tools.proofs.Pieces.{were_put, part_put, cut_put, late_early, counted_put}
use Rattle.dump_tools.proofs.placing.put_text.Goals as goal

pub returns-in-Ok-clause-ok : goal.returns-in-Ok-clause-ok
returns-in-Ok-clause-ok g c = λ told. were_put (one_piece c.args.target.now c.args.text.now None).pieces _ _ _ _ told c.in-Ok.ensures.ok

pub returns-in-Err-clause-cut : goal.returns-in-Err-clause-cut
returns-in-Err-clause-cut g c = λ teller left told. let pieces = (one_piece c.args.target.now c.args.text.now None).pieces in cut_put teller pieces None _ _ left _ _ told told (part_put pieces _ _ _ _ told c.in-Err.ensures.err)

pub returns-in-Err-clause-early : goal.returns-in-Err-clause-early
returns-in-Err-clause-early g c = rw (c.stop_outcome.ensures) (late_early c.in-Err.stop c.in-Err.ensures.late)

pub returns-in-Err-clause-counted : goal.returns-in-Err-clause-counted
returns-in-Err-clause-counted g c = λ inputs lines. rw (c.stop_outcome.ensures) (counted_put (Unit {0}) c.in-Err.stop _ _ inputs _ _ _ _ lines c.in-Err.ensures.late c.in-Err.ensures.read_count c.in-Err.ensures.write_count)
