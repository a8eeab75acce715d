use Rattle.std.proofs.Common.{◌<◌, length, arith, true≢false, sym, ◌∙◌, refl}
use Rattle.same_statements.proofs.Lists.{one_more, at_one_place, all_same}
use Rattle.same_statements.proofs.marks.same_marks.Goals as goal

pub loop-i-preserved : goal.loop-i-preserved
loop-i-preserved c =
    let within : c.loop-i.i < length c.args.a.now = omega arith in
    let other_within : c.loop-i.i < length c.args.b.now = omega arith in
    one_more c.args.a.now c.args.b.now c.loop-i.i c.index-a-i.result c.index-b-i.result within other_within c.index-a-i.is c.index-b-i.is c.loop-i.invariant (c.same_mark.ensures.0 c.if-not-same_mark.false)

pub returns-then-not-same_mark : goal.returns-then-not-same_mark
returns-then-not-same_mark c = (
  λ no. absurd (true≢false (sym no)),
  λ same.
      let within : c.loop-i.i < length c.args.a.now = omega arith in
      absurd (true≢false (sym (c.same_mark.ensures.1 (at_one_place c.args.a.now c.args.b.now c.loop-i.i c.index-a-i.result c.index-b-i.result within c.index-a-i.is c.index-b-i.is same)) ∙ c.if-not-same_mark.true)),
)

pub returns : goal.returns
returns c = (
  λ _. all_same c.args.a.now c.args.b.now c.loop-i.i (omega arith) (omega arith) c.loop-i.invariant,
  λ _. refl,
)
