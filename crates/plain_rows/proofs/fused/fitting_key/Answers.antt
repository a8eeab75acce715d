use Rattle.std.proofs.Common.{List, ap, subst, sym, ◌∙◌}
use Rattle.std.specs.List.{AllZip, slice_get}
use Rattle.copy_text.specs.Pieces.{pieces}
use Rattle.line_fields.specs.Clear.{first_line}
use Rattle.cat_model.specs.declared.value.Column.{Column}
use Rattle.plain_rows.specs.Lines.{TakesPiece}
use Rattle.plain_rows.proofs.RisingLines.{first_fits}
use Rattle.plain_rows.proofs.fused.fitting_key.Goals as goal

pub returns-clause-first : goal.returns-clause-first
returns-clause-first c = λ is some.
    let columns = c.args.columns.now in
    let place = c.args.place in
    let text = c.args.text in
    let line = c.in-Some.ensures in
    let there = ap (λ (cs : List Column). slice_get cs place) (sym c.as_slice.ensures) ∙ sym c.in_ok-column.ensures in
    let fits = subst (λ (cs : List Column). AllZip TakesPiece cs (pieces (first_line text))) c.as_slice-2.ensures (line.fits is.clear) in
    first_fits columns c.in_ok-column.column.now place text c.compared.result.now c.in-Some.behind c.in-Some.piece.now some is there (line.piece is.clear) c.compared.ensures (line.line is.clear) fits
