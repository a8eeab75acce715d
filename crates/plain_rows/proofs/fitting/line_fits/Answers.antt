use Rattle.std.proofs.Common.{refl}
use Rattle.plain_rows.proofs.FieldSteps.{clear_fits}
use Rattle.plain_rows.proofs.fitting.line_fits.Goals as goal

pub returns-then-pieces_fit : goal.returns-then-pieces_fit
returns-then-pieces_fit c = λ yes text primary marked. clear_fits primary c.args.columns.now c.args.line.now (c.if-is_clear.ensures refl text) (c.if-pieces_fit.ensures refl)
