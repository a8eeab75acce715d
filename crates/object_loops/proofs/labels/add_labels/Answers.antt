use Rattle.std.proofs.Common.{◌≡◌, List, sym, subst, take, arith}
use Rattle.std.proofs.lemmas.List.{take_all}
use Rattle.std.proofs.Math.ListN.{get_or}
use Rattle.cat_model.specs.Values.{Bytes}
use Rattle.cluster_loops.specs.Ids.{oids_of}
use Rattle.object_export.specs.Types.{NamedLabel, label_row}
use Rattle.object_loops.specs.Adding.{Adds}
use Rattle.object_export.specs.Parts.{labels_from}
use Rattle.object_loops.proofs.Passes.{adds_one, labels_more}
use Rattle.object_loops.proofs.labels.add_labels.Goals as goal

pub loop-place-preserved : goal.loop-place-preserved
loop-place-preserved c = λ number.
    let all = c.args.labels.now in
    let i = c.loop-place.place in
    let label = c.index-labels-place.result in
    let is : label ≡ get_or all i label = c.index-labels-place.is in
    subst (λ (ts : List NamedLabel). Adds (λ (t : NamedLabel) row. row ≡ label_row (oids_of c.args.ids.now number) t) ts c.args.rows.now c.push.new.rows) (sym (labels_more c.args.path.now all i label c.loop-place-test.true))
    (adds_one (λ (t : NamedLabel) row. row ≡ label_row (oids_of c.args.ids.now number) t) (labels_from c.args.path.now all 0 (take i all)) c.args.rows.now c.loop-place.rows c.push.new.rows (record { path = c.args.path.now; labels = all; place = i; label = get_or all i label }) c.in_ok-row_of.field-0 (c.loop-place.invariant number) c.in_ok-push.ensures
    (subst (λ (l : Bytes). c.in_ok-row_of.field-0 ≡ label_row (oids_of c.args.ids.now number) (record { path = c.args.path.now; labels = all; place = i; label = l })) is (c.in_ok-row_of.ensures number)))

pub returns : goal.returns
returns c = λ number.
    subst (λ (ls : List Bytes). Adds (λ (t : NamedLabel) row. row ≡ label_row (oids_of c.args.ids.now number) t) (labels_from c.args.path.now c.args.labels.now 0 ls) c.args.rows.now c.loop-place.rows) (take_all c.loop-place.place c.args.labels.now (omega arith)) (c.loop-place.invariant number)
