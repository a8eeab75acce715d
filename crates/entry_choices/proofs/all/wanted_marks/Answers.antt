use Rattle.std.proofs.Common.{◌<◌, length, take, reverse, arith}
use Rattle.std.proofs.lemmas.Grind.{common_steps}
use Rattle.entry_choices.specs.Choices.{wanted}
use Rattle.entry_choices.proofs.Behind.{wanted_here, marks_next}
use Rattle.entry_choices.proofs.Books.{knows_none, knows_next}
use Rattle.entry_choices.proofs.all.wanted_marks.Goals as goal

pub loop-entry-init : goal.loop-entry-init
loop-entry-init c = (knows_none c.args.options.now c.new-book.result (λ id. grind (arith, common_steps, c.new-book.ensures.empty)), c.in_ok-marks.ensures.items)

pub loop-entry-preserved : goal.loop-entry-preserved
loop-entry-preserved c =
    let below : c.loop-entry.entry-index < length c.args.entries.now = omega arith in
    let taken = c.in_ok-taken.ensures.answer (reverse (take c.loop-entry.entry-index c.args.entries.now)) c.loop-entry.invariant.0 in (
      knows_next c.args.options.now c.args.entries.now c.loop-entry.entry-index c.entry-item.result c.enter.new.book below c.entry-item.is
          (c.in_ok-taken.ensures.entered (reverse (take c.loop-entry.entry-index c.args.entries.now)) c.loop-entry.invariant.0),
      marks_next (wanted c.args.options.now c.args.entries.now) c.loop-entry.entry-index c.loop-entry.marks.items c.push.new.self.items c.in_ok-taken.taken
          (wanted_here c.args.options.now c.args.entries.now c.loop-entry.entry-index c.entry-item.result c.in_ok-taken.taken below c.entry-item.is taken)
          c.loop-entry.invariant.1 c.in_ok-push.ensures.items,
    )
