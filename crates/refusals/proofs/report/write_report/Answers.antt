use Rattle.std.proofs.Common.{◌≡◌, ℕ, ◌+◌, ◌<◌, List, [], ◌∷◌, ◌++◌, length, take, sym, ap, ◌∙◌}
use Rattle.std.proofs.Math.ListN.{get_or}
use Rattle.std.proofs.lemmas.List.{take_more, flat_map_more}
use Rattle.tool_words.specs.Messages.{Refusal, refusal_line, report}
use Rattle.refusals.proofs.report.write_report.Goals as goal

-- the report with one line more
one_more : (out before after : List ℕ) (refusals : List Refusal) (i : ℕ) (refusal : Refusal) → before ≡ out ++ report (take i refusals) → after ≡ before ++ refusal_line refusal → i < length refusals → refusal ≡ get_or refusals i refusal → after ≡ out ++ report (take (i + 1) refusals)
one_more out before after refusals i refusal so added h is =
    added
    ∙ ap (λ b. b ++ refusal_line refusal) so
    ∙ flat_map_more refusal_line out (take i refusals) refusal
    ∙ ap (λ rs. out ++ report rs) (ap (λ r. take i refusals ++ r ∷ []) is ∙ sym (take_more refusals i refusal h))

pub loop-refusal-preserved : goal.loop-refusal-preserved
loop-refusal-preserved c =
    one_more c.args.out.now.items c.loop-refusal.out.items c.write.new.out.items c.args.refusals.now c.loop-refusal.refusal-index c.refusal-item.result c.loop-refusal.invariant c.in_ok-write.ensures c.loop-refusal-test.true c.refusal-item.is
