use Rattle.std.proofs.Common.{ℕ, ◌++◌, [], ◌∷◌, List, sym, ap, ◌∙◌}
use Rattle.std.specs.Prelude.{if◌then◌else◌}
use Rattle.graph_parts.specs.declared.object.Obj.{Obj}
use Rattle.dep_sort.specs.Cut.{is_pre_data, is_post_data, places_of}
use Rattle.dep_sort.proofs.Numbered.{places_more}
use Rattle.dep_sort.proofs.cut.Bounds.of.Goals as goal

pub loop-place-init : goal.loop-place-init
unfolding places_of
loop-place-init c = record { pre_data = c.new.ensures.items; post_data = c.new-2.ensures.items }

pub loop-place-preserved : goal.loop-place-preserved
loop-place-preserved c =
    let objects : List Obj = c.args.objects.now in
    let object : Obj = c.index-objects-place.result in
    let place : ℕ = c.loop-place.place in
    record {
      pre_data =
          c.in_ok-note.ensures.pre_data
          ∙ ap (λ (l : List ℕ). l ++ (if is_pre_data object.kind then place ∷ [] else [])) c.loop-place.invariant.pre_data
          ∙ sym (places_more is_pre_data objects place object c.loop-place-test.true c.index-objects-place.is);
      post_data =
          c.in_ok-note.ensures.post_data
          ∙ ap (λ (l : List ℕ). l ++ (if is_post_data object.kind then place ∷ [] else [])) c.loop-place.invariant.post_data
          ∙ sym (places_more is_post_data objects place object c.loop-place-test.true c.index-objects-place.is);
    }
