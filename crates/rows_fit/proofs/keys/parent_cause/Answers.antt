-- A row has no parent, or the next foreign key is to be tried.
use Rattle.std.proofs.Common.{ℕ, ◌+◌, ◌<◌, Option, Some, length, drop, ap, sym, ◌∙◌, arith}
use Rattle.cat_model.specs.declared.cause.Cause.TheVariants as causes
use Rattle.cat_model.specs.Values.{Bytes}
use Rattle.rows_fit.specs.KeyCauses.{orphan_or, parent_cause}
use Rattle.rows_fit.proofs.KeyLaws.{one_foreign}
use Rattle.rows_fit.proofs.keys.parent_cause.Goals as goal

pub returns-in-Some : goal.returns-in-Some
returns-in-Some c =
    let columns = c.args.columns.now in
    let rows = c.args.rows.now in
    let fs = c.args.foreigns.now in
    let f = c.index-foreigns-i.result in
    let i = c.loop-i.i in
    let below : i < length fs = omega arith in
    c.in_ok-no_parent.ensures
    ∙ ap (λ (name : Bytes). Some (causes.NoParent name c.in-Some.row)) c.name.ensures
    ∙ sym (c.loop-i.invariant ∙ one_foreign columns rows fs i f below c.index-foreigns-i.is ∙ ap (λ (row : Option ℕ). orphan_or f.name row (parent_cause (drop (i + 1) fs) columns rows)) (sym c.in_ok-row.ensures ∙ c.in-Some.is))

pub loop-i-preserved : goal.loop-i-preserved
loop-i-preserved c =
    let columns = c.args.columns.now in
    let rows = c.args.rows.now in
    let fs = c.args.foreigns.now in
    let f = c.index-foreigns-i.result in
    let i = c.loop-i.i in
    let below : i < length fs = omega arith in
    c.loop-i.invariant ∙ one_foreign columns rows fs i f below c.index-foreigns-i.is ∙ ap (λ (row : Option ℕ). orphan_or f.name row (parent_cause (drop (i + 1) fs) columns rows)) (sym c.in_ok-row.ensures ∙ c.in_default.is)
