use Rattle.std.proofs.Common.{◌≡◌, Bool, true, false, not, ◌||◌, Bor, sym, ap, ◌∙◌}
use Rattle.cat_model.specs.Values.{Bytes}
use Rattle.distinct_names.proofs.Distincts.{same_name, one_name_more, repeated, passed}
use Rattle.distinct_names.proofs.distinct.are_distinct.Goals as goal

turned : (first there b : Bool) → first ≡ not there → first ≡ b → there ≡ not b
turned first true b e f = ap not (sym e ∙ f)
turned first false b e f = ap not (sym e ∙ f)

-- the set sees what a reference points to
abbrev pointing : Bytes → Bor Bytes
pointing name = record { ref_ptr = (0, 0); now = name }

pub returns-then-not-first : goal.returns-then-not-first
returns-then-not-first c =
    let seen = c.loop-name.invariant.seen_are (pointing c.name-item.result) in
    sym (c.loop-name.invariant.left_is
    ∙ repeated c.args.names.now c.loop-name.name-index c.name-item.result c.loop-name-test.true c.name-item.is
    (sym seen ∙ turned c.in_ok-first.first _ false c.in_ok-first.ensures.first c.if-not-first.true))

pub loop-name-preserved : goal.loop-name-preserved
loop-name-preserved c =
    let seen = c.loop-name.invariant.seen_are in
    record {
      seen_are = λ name.
          c.in_ok-first.ensures.added name
          ∙ ap (λ b. b || same_name name.now c.name-item.result) (seen name)
          ∙ sym (one_name_more c.args.names.now c.loop-name.name-index c.name-item.result name.now c.loop-name-test.true c.name-item.is);
      left_is = c.loop-name.invariant.left_is
          ∙ passed c.args.names.now c.loop-name.name-index c.name-item.result c.loop-name-test.true c.name-item.is
          (sym (seen (pointing c.name-item.result)) ∙ turned c.in_ok-first.first _ true c.in_ok-first.ensures.first c.if-not-first.false);
    }
