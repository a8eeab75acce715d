-- The field is null in a marked column, or the next is to be tried.
use Rattle.std.proofs.Common.{◌+◌, ◌<◌, ◌≤◌, min, Bool, false, cond, Some, length, drop, get_or, ap, sym, ◌∙◌, arith}
use Rattle.std.proofs.lemmas.List.{get_or_default}
use Rattle.row_keys.specs.Nulls.{null_at}
use Rattle.row_keys.proofs.Rows.{one_field, no_more}
use Rattle.row_keys.proofs.nulls.null_at.Goals as goal

pub loop-i-preserved : goal.loop-i-preserved
loop-i-preserved c =
    let named = c.args.named.now in
    let fields = c.args.fields.now in
    let i = c.loop-i.i in
    let mark = get_or named i false in
    let below : i < length named = omega arith in
    let within : i < length fields = omega arith in
    c.loop-i.invariant
    ∙ one_field (i + 1) named fields i mark c.index-fields-i.result below within (get_or_default named i false mark below) c.index-fields-i.is
    ∙ ap (λ (b : Bool). cond b (Some (i + 1)) (null_at (i + 1 + 1) (drop (i + 1) named) (drop (i + 1) fields))) (sym c.is_missing.ensures ∙ c.if-is_missing.false)

pub returns : goal.returns
returns c =
    let past : min (length c.args.named.now) (length c.args.fields.now) ≤ c.loop-i.i = omega arith in
    sym (c.loop-i.invariant ∙ no_more (c.loop-i.i + 1) c.args.named.now c.args.fields.now c.loop-i.i past)
