use Rattle.std.proofs.Common.{◌≡◌, ◌<◌, true, arith}
use Rattle.std.proofs.lemmas.Option.{slice_get_within}
use Rattle.object_ids.proofs.Given.{numbered_has, numbered_keeps}
use Rattle.entry_ids.proofs.Drawing.{same_unused, used_more, unused_more, none_left}
use Rattle.entry_ids.proofs.Numbering.{had_more}
use Rattle.entry_ids.proofs.number.number_slots.Goals as goal

pub loop-slot-init : goal.loop-slot-init
loop-slot-init c = record { kept = λ t oid e. e; used = λ oid h. h; unused = same_unused c.args.ids.now; had = λ k s below at. absurd (omega arith) }

pub loop-slot-preserved : goal.loop-slot-preserved
loop-slot-preserved c =
    let s = c.slot-item.result in
    let done : c.in_ok-number.field-0 ≡ true = c.if-not-branch.false in
    let keeps = numbered_keeps c.loop-slot.ids s c.number.new.self c.in_ok-number.field-0 c.in_ok-number.ensures.ok in
    let has = numbered_has c.loop-slot.ids s c.number.new.self c.in_ok-number.field-0 c.in_ok-number.ensures.ok done in
    record {
      kept = λ t oid e. keeps t oid (c.loop-slot.invariant.kept t oid e);
      used = used_more c.loop-slot.ids s c.number.new.self c.args.ids.now c.in_ok-number.field-0 c.in_ok-number.ensures.ok c.loop-slot.invariant.used;
      unused = unused_more c.loop-slot.ids s c.number.new.self c.args.ids.now c.in_ok-number.field-0 c.in_ok-number.ensures.ok c.loop-slot.invariant.used c.loop-slot.invariant.unused;
      had = had_more c.loop-slot.ids c.number.new.self c.args.slots.now c.loop-slot.slot-index s keeps c.loop-slot-test.true c.slot-item.is has c.loop-slot.invariant.had;
    }

pub returns-clause-all : goal.returns-clause-all
returns-clause-all c = λ _ i s at.
    let within = slice_get_within c.args.slots.now i s at in
    let below : i < c.loop-slot.slot-index = omega arith in
    c.loop-slot.invariant.had i s below at

pub returns-then-not-branch-clause-left : goal.returns-then-not-branch-clause-left
returns-then-not-branch-clause-left c = λ _. none_left c.loop-slot.ids c.slot-item.result c.number.new.self c.in_ok-number.field-0 c.in_ok-number.ensures.ok c.if-not-branch.true

pub returns-then-not-branch-clause-unused : goal.returns-then-not-branch-clause-unused
returns-then-not-branch-clause-unused c = unused_more c.loop-slot.ids c.slot-item.result c.number.new.self c.args.ids.now c.in_ok-number.field-0 c.in_ok-number.ensures.ok c.loop-slot.invariant.used c.loop-slot.invariant.unused
