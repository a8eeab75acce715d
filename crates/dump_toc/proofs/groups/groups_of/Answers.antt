use Rattle.std.proofs.Common.{ℕ, List, length, map, ap, ◌∙◌, arith}
use Rattle.std.specs.List.{enumerate_from, flat_map}
use Rattle.graph_parts.specs.declared.object.Obj.{Obj}
use Rattle.dump_toc.specs.declared.draft.Draft.{Draft}
use Rattle.dump_toc.specs.Toc.{taken_at}
use Rattle.dump_toc.proofs.Placed.{lists_placed, each_placed, all_placed}
use Rattle.dump_toc.proofs.groups.groups_of.Goals as goal

pub loop-place-preserved : goal.loop-place-preserved
loop-place-preserved c =
    let t : ℕ × Obj → List Draft = taken_at c.args.rows.now c.args.select.now c.args.standing.now c.args.ordered.now in (
      lists_placed t _ _ c.in_ok-group.group.items c.objects-objects.result.now c.loop-place.place c.index-objects-place.result _ c.loop-place.invariant.0 c.in_ok-add_group.ensures.drafts c.in_ok-group.ensures c.loop-place-test.true c.index-objects-place.is,
      each_placed (λ e. length (t e)) _ _ (length c.in_ok-group.group.items) c.objects-objects.result.now c.loop-place.place c.index-objects-place.result _ c.loop-place.invariant.1 c.in_ok-add_group.ensures.counts (ap length c.in_ok-group.ensures) c.loop-place-test.true c.index-objects-place.is,
    )

pub returns-clause-drafts : goal.returns-clause-drafts
returns-clause-drafts c =
    let t : ℕ × Obj → List Draft = taken_at c.args.rows.now c.args.select.now c.args.standing.now c.args.ordered.now in
    all_placed (λ (es : List (ℕ × Obj)). flat_map t es) _ c.objects-objects.result.now c.loop-place.place c.loop-place.invariant.0 (omega (arith, c.loop-place-test.false))
    ∙ ap (λ (os : List Obj). flat_map t (enumerate_from 0 os)) c.objects-objects.ensures

pub returns-clause-counts : goal.returns-clause-counts
returns-clause-counts c =
    let t : ℕ × Obj → List Draft = taken_at c.args.rows.now c.args.select.now c.args.standing.now c.args.ordered.now in
    all_placed (λ (es : List (ℕ × Obj)). map (λ e. length (t e)) es) _ c.objects-objects.result.now c.loop-place.place c.loop-place.invariant.1 (omega (arith, c.loop-place-test.false))
    ∙ ap (λ (os : List Obj). map (λ e. length (t e)) (enumerate_from 0 os)) c.objects-objects.ensures
