use Rattle.std.proofs.Common.{◌≡◌, ◌<◌, ◌≤◌, [], ◌∷◌, length, get_or, ◌∙◌, arith, length-append}
use Rattle.std.proofs.lemmas.Result.{err_from_is_err_and}
use Rattle.cat_rows.specs.declared.kind.ColKind.TheVariants.{Oid}
use Rattle.cat_rows.specs.Reading.{cells_of, cells_at, cell_at}
use Rattle.cat_rows.proofs.FrontLemmas.{cells_of-started, cells_step, cells_fail, cells_end, FailsRow-from}
use Rattle.cat_rows.proofs.reading.read_cells.Goals as goal

pub returns-in_err-cell : goal.returns-in_err-cell
returns-in_err-cell g c =
    let kinds = c.args.spec.now.columns in
    let at = c.loop-kind.kind-index in
    let len : length kinds ≡ g.row.N = omega arith in
    let within : at < length kinds = omega arith in
    let started = cells_of-started kinds g.row.N c.args.line.now c.in_ok-columns.columns len c.in_ok-columns.ensures in
    let p = err_from_is_err_and c.from_residual-in_err-cell.result c.from_residual-in_err-cell.ensures.1 in
    rw (p.1, p.2) (FailsRow-from c.in_err-cell.field-0.0 (cell_at (get_or kinds at Oid) c.loop-kind.columns) (cells_of kinds c.args.line.now)
    (λ f is. cells_fail kinds at Oid c.loop-kind.columns f c.loop-kind.cells.items (cells_of kinds c.args.line.now) within is (started ∙ c.loop-kind.invariant.1))
    c.in_err-cell.ensures)

pub loop-kind-preserved : goal.loop-kind-preserved
loop-kind-preserved g c =
    let kinds = c.args.spec.now.columns in
    let at = c.loop-kind.kind-index in
    let within : at < length kinds = omega arith in
    let pushed = c.in_ok-push.ensures.items in
    let step = cells_step kinds at Oid c.loop-kind.columns c.cell.new.self c.in_ok-cell.field-0 c.loop-kind.cells.items (cells_at kinds c.in_ok-columns.columns) within c.in_ok-cell.ensures c.loop-kind.invariant.1 in
    rw pushed (omega (arith, length-append c.loop-kind.cells.items (c.in_ok-cell.field-0 ∷ []), c.loop-kind.invariant.0), step)

pub returns : goal.returns
returns g c =
    let kinds = c.args.spec.now.columns in
    let len : length kinds ≡ g.row.N = omega arith in
    let done : length kinds ≤ c.loop-kind.kind-index = omega arith in
    let started = cells_of-started kinds g.row.N c.args.line.now c.in_ok-columns.columns len c.in_ok-columns.ensures in
    rw c.new.ensures (started ∙ cells_end kinds c.loop-kind.kind-index c.loop-kind.columns c.loop-kind.cells.items (cells_at kinds c.in_ok-columns.columns) done c.loop-kind.invariant.1)
