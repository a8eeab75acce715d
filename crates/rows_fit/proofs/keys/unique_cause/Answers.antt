-- Two rows have the key in common, or the next is to be tried.
use Rattle.std.proofs.Common.{◌≡◌, ℕ, ◌+◌, ◌<◌, List, Option, Some, None, length, drop, ap, sym, ◌∙◌, arith}
use Rattle.cat_model.specs.declared.cause.Cause.TheVariants as causes
use Rattle.cat_model.specs.Values.{Bytes}
use Rattle.cat_model.specs.Tables.{repeated}
use Rattle.rows_fit.specs.KeyCauses.{duplicate_or, unique_cause}
use Rattle.rows_fit.proofs.KeyLaws.{one_unique}
use Rattle.rows_fit.proofs.keys.unique_cause.Goals as goal

pub returns-in-Some : goal.returns-in-Some
returns-in-Some c =
    let columns = c.args.columns.now in
    let rows = c.args.rows.now in
    let us = c.args.uniques.now in
    let u = c.index-uniques-i.result in
    let i = c.loop-i.i in
    let pair = c.in-Some.pair in
    let below : i < length us = omega arith in
    let there : repeated columns u.1 rows ≡ Some pair = ap (λ (names : List Bytes). repeated columns names rows) (sym c.columns.ensures) ∙ sym c.in_ok-pair.ensures ∙ c.in-Some.is in
    c.in_ok-duplicate.ensures
    ∙ ap (λ (name : Bytes). Some (causes.Duplicate name pair.0 pair.1)) c.name.ensures
    ∙ sym (c.loop-i.invariant ∙ one_unique columns rows us i u below c.index-uniques-i.is ∙ ap (λ (p : Option (ℕ × ℕ)). duplicate_or u.0 p (unique_cause (drop (i + 1) us) columns rows)) there)

pub loop-i-preserved : goal.loop-i-preserved
loop-i-preserved c =
    let columns = c.args.columns.now in
    let rows = c.args.rows.now in
    let us = c.args.uniques.now in
    let u = c.index-uniques-i.result in
    let i = c.loop-i.i in
    let below : i < length us = omega arith in
    let none : repeated columns u.1 rows ≡ None = ap (λ (names : List Bytes). repeated columns names rows) (sym c.columns.ensures) ∙ sym c.in_ok-pair.ensures ∙ c.in_default.is in
    c.loop-i.invariant ∙ one_unique columns rows us i u below c.index-uniques-i.is ∙ ap (λ (p : Option (ℕ × ℕ)). duplicate_or u.0 p (unique_cause (drop (i + 1) us) columns rows)) none
