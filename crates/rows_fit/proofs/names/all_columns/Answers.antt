-- No names stand for all; some are columns, as many as the table has.
use Rattle.std.proofs.Common.{Bool, ◌&&◌, length, ap, sym, ◌∙◌}
use Rattle.std.specs.Prelude.{◌==◌}
use Rattle.rows_fit.proofs.Distinct.{no_names, some_names}
use Rattle.rows_fit.proofs.names.all_columns.Goals as goal

pub returns-then-is_empty : goal.returns-then-is_empty
returns-then-is_empty c = no_names c.args.columns.now c.args.names.now (sym c.is_empty.ensures ∙ c.if-is_empty.true)

pub returns : goal.returns
returns c =
    c.are_whole.ensures
    ∙ ap (λ (b : Bool). b && length c.args.columns.now == length c.args.names.now) c.in_ok-there.ensures
    ∙ some_names c.args.columns.now c.args.names.now (sym c.is_empty.ensures ∙ c.if-is_empty.false)
