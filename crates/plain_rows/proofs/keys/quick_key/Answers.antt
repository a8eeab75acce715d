use Rattle.std.proofs.Common.{List, ℕ, Some, ap, sym, ◌∙◌}
use Rattle.std.specs.List.{slice_get}
use Rattle.cat_model.specs.declared.value.Column.{Column}
use Rattle.plain_rows.proofs.KeySteps.{field_compared}
use Rattle.plain_rows.proofs.keys.quick_key.Goals as goal

pub returns : goal.returns
returns c =
    let place = c.args.place in
    let there = ap (λ (cs : List Column). slice_get cs place) (sym c.as_slice.ensures) ∙ sym c.in_ok-column.ensures in
    λ row reads.
    field_compared c.args.columns.now c.in_ok-column.column.now place row c.in_ok-text.text.now there (c.in_ok-text.ensures row reads)
    ∙ ap (λ (xs : List ℕ). Some xs) (sym c.compared.ensures)
