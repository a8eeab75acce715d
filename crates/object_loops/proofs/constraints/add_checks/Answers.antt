use Rattle.std.proofs.Common.{◌≡◌, ◌++◌, ◌∷◌, List, [], true, map, sym, subst, ap, ◌∙◌, append-nil, append_assoc}
use Rattle.std.specs.FinMap.{entries}
use Rattle.std.specs.List.{AllByRecursion}
use Rattle.cat_rows.specs.declared.constraints.ConstraintRow.{ConstraintRow}
use Rattle.cat_model.specs.Values.{Bytes}
use Rattle.cat_sound.specs.Itself.{check_of}
use Rattle.cluster_loops.specs.Ids.{oids_of}
use Rattle.map_export.specs.Making.{AreSaid}
use Rattle.object_export.specs.Constraints.{IsConstrainedRow}
use Rattle.sound_texts.specs.Grammar.{grammar}
use Rattle.object_export.specs.Parts.{check_in}
use Rattle.object_loops.proofs.constraints.add_checks.Goals as goal

pub loop-name-init : goal.loop-name-init
loop-name-init c = λ number all.
    let it : c.into_iter-name-iterator.result ≡ entries c.args.domain.now.checks = c.into_iter-name-iterator.ensures.into_iter_gives ∙ c.iter-name-items.ensures in
    ([], sym (append-nil c.args.rows.now), subst (AllByRecursion (λ (e : Bytes × Bytes). grammar.constraint (check_of e.1) ≡ true)) (sym it) all, λ rest said. subst (λ (es : List (Bytes × Bytes)). AreSaid (IsConstrainedRow (oids_of c.args.ids.now number)) (map (check_in c.args.path.now c.args.domain.now) es) rest) it said)

-- the first of those that were left, and its row
pub loop-name-preserved : goal.loop-name-preserved
loop-name-preserved c = λ number all.
    let it = c.loop-name.invariant number all in
    let says = IsConstrainedRow (oids_of c.args.ids.now number) in
    let left : c.loop-name.name-iterator ≡ (c.in-Some.name.now, c.in-Some.text.now) ∷ c.next.new.self = c.in-Some.ensures.steps in
    let good = subst (AllByRecursion (λ (e : Bytes × Bytes). grammar.constraint (check_of e.1) ≡ true)) left it.2 in
    let row = c.in_ok-row_of_check.field-0 in (
      it.0 ++ row ∷ [],
      c.in_ok-push.ensures ∙ ap (λ (rows : List ConstraintRow). rows ++ row ∷ []) it.1 ∙ append_assoc c.args.rows.now it.0 (row ∷ []),
      good.1,
      λ rest said. subst (AreSaid says (map (check_in c.args.path.now c.args.domain.now) (entries c.args.domain.now.checks))) (sym (append_assoc it.0 (row ∷ []) rest)) (it.3 (row ∷ rest) (subst (λ (es : List (Bytes × Bytes)). AreSaid says (map (check_in c.args.path.now c.args.domain.now) es) (row ∷ rest)) (sym left) (c.in_ok-row_of_check.ensures number c.args.domain.now good.0, said))),
    )

pub returns : goal.returns
returns c = λ number all.
    let it = c.loop-name.invariant number all in
    let says = IsConstrainedRow (oids_of c.args.ids.now number) in
    let left : c.loop-name.name-iterator ≡ [] = c.in-None.ensures.steps.0 in
    (it.0, it.1, subst (AreSaid says (map (check_in c.args.path.now c.args.domain.now) (entries c.args.domain.now.checks))) (append-nil it.0) (it.3 [] (subst (λ (es : List (Bytes × Bytes)). AreSaid says (map (check_in c.args.path.now c.args.domain.now) es) []) (sym left) tt)))
