use Rattle.std.proofs.Common.{◌≡◌, Bool, true, false, not, ◌||◌, Bor, sym, ap, ◌∙◌}
use Rattle.cat_model.specs.Values.{Bytes}
use Rattle.distinct_names.proofs.Distincts.{same_name, one_name_more, repeated, passed}
use Rattle.distinct_names.proofs.distinct.are_distinct_texts.Goals as goal

turned : (first there b : Bool) → first ≡ not there → first ≡ b → there ≡ not b
turned first true b e f = ap not (sym e ∙ f)
turned first false b e f = ap not (sym e ∙ f)

-- the set sees what a reference points to
abbrev pointing : Bytes → Bor Bytes
pointing name = record { ref_ptr = (0, 0); now = name }

pub returns-then-not-first : goal.returns-then-not-first
returns-then-not-first c =
    let seen = c.loop-text.invariant.seen_are (pointing c.text-item.result) in
    sym (c.loop-text.invariant.left_is
    ∙ repeated c.args.texts.now c.loop-text.text-index c.text-item.result c.loop-text-test.true c.text-item.is
    (sym seen ∙ turned c.in_ok-first.first _ false c.in_ok-first.ensures.first c.if-not-first.true))

pub loop-text-preserved : goal.loop-text-preserved
loop-text-preserved c =
    let seen = c.loop-text.invariant.seen_are in
    record {
      seen_are = λ name.
          c.in_ok-first.ensures.added name
          ∙ ap (λ b. b || same_name name.now c.text-item.result) (seen name)
          ∙ sym (one_name_more c.args.texts.now c.loop-text.text-index c.text-item.result name.now c.loop-text-test.true c.text-item.is);
      left_is = c.loop-text.invariant.left_is
          ∙ passed c.args.texts.now c.loop-text.text-index c.text-item.result c.loop-text-test.true c.text-item.is
          (sym (seen (pointing c.text-item.result)) ∙ turned c.in_ok-first.first _ true c.in_ok-first.ensures.first c.if-not-first.false);
    }
