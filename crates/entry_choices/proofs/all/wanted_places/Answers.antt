use Rattle.std.proofs.Common.{◌<◌, ◌≡◌, length, take, reverse, arith}
use Rattle.std.proofs.lemmas.Grind.{common_steps}
use Rattle.entry_choices.specs.Choices.{wanted}
use Rattle.entry_choices.proofs.Behind.{wanted_here, places_next_yes, places_next_no}
use Rattle.entry_choices.proofs.Books.{knows_none, knows_next}
use Rattle.entry_choices.proofs.all.wanted_places.Goals as goal
use Rattle.entry_choices.proofs.all.wanted_places.Goals.{then-taken+in_ok-push, else-taken}

pub loop-i-init : goal.loop-i-init
loop-i-init c = (knows_none c.args.options.now c.new-book.result (λ id. grind (arith, common_steps, c.new-book.ensures.empty)), c.new-places.ensures.items)

pub loop-i-preserved : goal.loop-i-preserved
loop-i-preserved c =
    let below : c.loop-i.i < length c.args.entries.now = omega arith in
    let taken = c.in_ok-taken.ensures.answer (reverse (take c.loop-i.i c.args.entries.now)) c.loop-i.invariant.0 in
    let told : c.in_ok-taken.taken ≡ wanted c.args.options.now c.args.entries.now c.loop-i.i =
    wanted_here c.args.options.now c.args.entries.now c.loop-i.i c.index-entries-i.result c.in_ok-taken.taken below c.index-entries-i.is taken in (
      knows_next c.args.options.now c.args.entries.now c.loop-i.i c.index-entries-i.result c.enter.new.book below c.index-entries-i.is
          (c.in_ok-taken.ensures.entered (reverse (take c.loop-i.i c.args.entries.now)) c.loop-i.invariant.0),
      elim c.if-taken.branch [
        | then-taken+in_ok-push w ↦ rw w.places-is (places_next_yes (wanted c.args.options.now c.args.entries.now) c.loop-i.i c.loop-i.places.items w.push.new.self.items c.in_ok-taken.taken told w.if-taken.true c.loop-i.invariant.1 w.in_ok-push.ensures.items)
        | else-taken w ↦ rw w.places-is (places_next_no (wanted c.args.options.now c.args.entries.now) c.loop-i.i c.loop-i.places.items c.in_ok-taken.taken told w.if-taken.false c.loop-i.invariant.1)
      ],
    )
