use Rattle.std.proofs.Common.{ℕ, length, map, ap, sym, ◌∙◌}
use Rattle.std.proofs.lemmas.List.{length-map}
use Rattle.std.proofs.lemmas.Result.{IfOk-weaker}
use Rattle.std.specs.BTreeSet.{BTreeSet}
use Rattle.std.specs.Global.{Vec}
use Rattle.restore_board.proofs.Waiting.{all-waited}
use Rattle.restore_board.proofs.beginning.places_of.Goals as goal

pub returns : goal.returns
returns c = record {
  many =
      IfOk-weaker c.members_of_all.result _ _
      (λ lists w.
      sym (length-map lists.items (λ (v : Vec ℕ). v.items))
      ∙ ap length w
      ∙ length-map c.as_slice.result.now (λ (s : BTreeSet ℕ). s.keys)
      ∙ ap length c.as_slice.ensures.value
      ∙ c.in_ok-sets.ensures.len)
      c.members_of_all.ensures;
  waited =
      IfOk-weaker c.members_of_all.result _ _
      (λ lists w. all-waited c.args.plan.now c.in_ok-sets.sets.items lists.items c.in_ok-sets.ensures.each (w ∙ ap (map (λ (s : BTreeSet ℕ). s.keys)) c.as_slice.ensures.value))
      c.members_of_all.ensures;
}
