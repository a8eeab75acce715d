use Rattle.std.proofs.Common.{List, ap, sym, ◌∙◌}
use Rattle.std.specs.List.{slice_get}
use Rattle.cat_model.specs.declared.value.Column.{Column}
use Rattle.plain_rows.proofs.RisingLines.{first_has}
use Rattle.plain_rows.proofs.clear_keys.first_key.Goals as goal

pub returns-clause-first : goal.returns-clause-first
returns-clause-first c = λ is some.
    let columns = c.args.columns.now in
    let place = c.args.place in
    let line = c.in-Some.ensures in
    let there = ap (λ (cs : List Column). slice_get cs place) (sym c.as_slice.ensures) ∙ sym c.in_ok-column.ensures in
    first_has columns c.in_ok-column.column.now place c.args.text c.compared.result.now c.in-Some.behind c.in-Some.piece.now some is there (line.piece is.clear) c.compared.ensures (line.line is.clear)
