-- A row has no parent, or the next foreign key is to be tried.
use Rattle.std.proofs.Common.{ℕ, ◌+◌, ◌<◌, ◌++◌, Option, Some, length, map, drop, ap, sym, ◌∙◌, arith}
use Rattle.std.specs.FinMap.{get}
use Rattle.cat_model.specs.declared.cause.Cause.TheVariants as cause
use Rattle.cat_model.specs.declared.key.Key.TheVariants as key
use Rattle.cat_model.specs.KeyEffects.{rows_in}
use Rattle.cat_model.specs.Trees.{seen}
use Rattle.cat_model.specs.Values.{Bytes}
use Rattle.rows_fit.specs.KeyCauses.{linked, orphan_or, parent_cause}
use Rattle.copy_effects.proofs.Tried.{one_link}
use Rattle.copy_effects.proofs.foreigns.cause_among.Goals as goal

pub returns-in-Some : goal.returns-in-Some
returns-in-Some c =
    let columns = c.args.columns.now in
    let rows = c.args.new.now in
    let fs = c.args.foreigns.now in
    let link = linked (seen c.args.named.now) c.args.q.now (rows_in (get c.args.named.now (key.Rows c.args.q.now)) ++ rows) in
    let f = c.index-foreigns-i.result in
    let i = c.loop-i.i in
    let below : i < length fs = omega arith in
    c.in_ok-no_parent.ensures
    ∙ ap (λ (name : Bytes). Some (cause.NoParent name c.in-Some.row)) c.name.ensures
    ∙ sym (c.loop-i.invariant ∙ one_link link columns rows fs i f below c.index-foreigns-i.is ∙ ap (λ (row : Option ℕ). orphan_or f.name row (parent_cause (map link (drop (i + 1) fs)) columns rows)) (sym c.in_ok-row.ensures ∙ c.in-Some.is))

pub loop-i-preserved : goal.loop-i-preserved
loop-i-preserved c =
    let columns = c.args.columns.now in
    let rows = c.args.new.now in
    let fs = c.args.foreigns.now in
    let link = linked (seen c.args.named.now) c.args.q.now (rows_in (get c.args.named.now (key.Rows c.args.q.now)) ++ rows) in
    let f = c.index-foreigns-i.result in
    let i = c.loop-i.i in
    let below : i < length fs = omega arith in
    c.loop-i.invariant ∙ one_link link columns rows fs i f below c.index-foreigns-i.is ∙ ap (λ (row : Option ℕ). orphan_or f.name row (parent_cause (map link (drop (i + 1) fs)) columns rows)) (sym c.in_ok-row.ensures ∙ c.in_default.is)
