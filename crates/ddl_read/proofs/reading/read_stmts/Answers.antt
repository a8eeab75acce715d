use Rattle.ddl_read.proofs.Common.{◌≡◌, ◌<◌, Some, None, arith, sym, err_from_is_err_and, Collected, statements_of, first_start, line_at, stray}
use Rattle.ddl_read.proofs.Statements.{IsNext, all_left, at_end, at_fault, at_stray, at_statement, at_bad_statement, at_line, at_bad_line, some_pieces}
use Rattle.ddl_read.proofs.reading.read_stmts.Goals as goal

pub statements-init : goal.statements-init
statements-init c = record { within = omega arith; left = rw c.new-statements.ensures.items (all_left c.args.text.now) }

pub returns-in_err-add_line : goal.returns-in_err-add_line
returns-in_err-add_line c =
    let text = c.args.text.now in
    let p = err_from_is_err_and c.from_residual.result c.from_residual.ensures.1 in
    let line : line_at text c.statements.at ≡ Some c.in-Some.line = sym c.in-Some.ensures.exact in
    rw (p.1, p.2) (at_bad_line (statements_of text) text c.statements.statements.items c.statements.at c.in-Some.line _ c.statements.invariant.left line c.in_err-add_line.ensures)

pub statements-preserved-in-Some : goal.statements-preserved-in-Some
statements-preserved-in-Some c =
    let text = c.args.text.now in
    let t = c.in-Some.line in
    let a = c.in_ok-add_line.ensures in
    let line : line_at text c.statements.at ≡ Some t = sym c.in-Some.ensures.exact in
    let within = c.in-Some.ensures.within in
    record {
      within = within.2;
      left = rw a.2 (at_line (statements_of text) text c.statements.statements.items c.statements.at t a.0 c.statements.invariant.left line a.1 (omega (arith, within.0, within.1)) within.2);
    }

pub returns-in-Some-stray : goal.returns-in-Some-stray
returns-in-Some-stray c =
    let text = c.args.text.now in
    let no_line : line_at text c.statements.at ≡ None = cc in
    let found : stray text c.statements.at ≡ Some c.in-Some-stray.start = cc in
    at_stray (statements_of text) text c.statements.statements.items c.statements.at c.in-Some-stray.start c.statements.invariant.left no_line found

pub returns-in_err-no_more : goal.returns-in_err-no_more
returns-in_err-no_more c =
    let text = c.args.text.now in
    let r = c.in_ok-pieces.field-0 in
    let made : Collected = record { pieces = r.pieces.items; end = r.end; fault = r.fault } in
    let p = err_from_is_err_and c.from_residual-in_err-no_more.result c.from_residual-in_err-no_more.ensures.1 in
    let none : first_start r.pieces.items ≡ None = cc in
    let no_line : line_at text c.statements.at ≡ None = cc in
    let next : IsNext text c.statements.at made None = record { no_line = no_line; tokens = c.in_ok-pieces.ensures.exact; first = none } in
    rw (p.1, p.2) (at_fault (statements_of text) text c.statements.statements.items c.statements.at made _ c.statements.invariant.left next c.in_err-no_more.ensures)

pub returns-in_default-first_start : goal.returns-in_default-first_start
returns-in_default-first_start c =
    let text = c.args.text.now in
    let r = c.in_ok-pieces.field-0 in
    let made : Collected = record { pieces = r.pieces.items; end = r.end; fault = r.fault } in
    let none : first_start r.pieces.items ≡ None = cc in
    let no_line : line_at text c.statements.at ≡ None = cc in
    let next : IsNext text c.statements.at made None = record { no_line = no_line; tokens = c.in_ok-pieces.ensures.exact; first = none } in
    at_end (statements_of text) text c.statements.statements.items c.statements.at made c.statements.invariant.left next c.in_ok-no_more.ensures

pub returns-in_err-at : goal.returns-in_err-at
returns-in_err-at c =
    let text = c.args.text.now in
    let r = c.in_ok-pieces.field-0 in
    let made : Collected = record { pieces = r.pieces.items; end = r.end; fault = r.fault } in
    let p = err_from_is_err_and c.from_residual-in_err-at.result c.from_residual-in_err-at.ensures.1 in
    let some : first_start r.pieces.items ≡ Some c.in-Some-first_start.start = cc in
    let no_line : line_at text c.statements.at ≡ None = cc in
    let next : IsNext text c.statements.at made (Some c.in-Some-first_start.start) = record { no_line = no_line; tokens = c.in_ok-pieces.ensures.exact; first = some } in
    rw (p.1, p.2) (at_bad_statement (statements_of text) text c.statements.statements.items c.statements.at made c.in-Some-first_start.start _ c.statements.invariant.left next (rw (← c.new-pieces.ensures) c.in_err-at.ensures.added))

pub statements-preserved : goal.statements-preserved
statements-preserved c =
    let text = c.args.text.now in
    let r = c.in_ok-pieces.field-0 in
    let made : Collected = record { pieces = r.pieces.items; end = r.end; fault = r.fault } in
    let some : first_start r.pieces.items ≡ Some c.in-Some-first_start.start = cc in
    let no_line : line_at text c.statements.at ≡ None = cc in
    let next : IsNext text c.statements.at made (Some c.in-Some-first_start.start) = record { no_line = no_line; tokens = c.in_ok-pieces.ensures.exact; first = some } in
    let a = c.in_ok-at.ensures.added in
    let w = c.in_ok-at.ensures.within in
    let past : c.statements.at < r.end = c.in_ok-pieces.ensures.forward (some_pieces r.pieces.items c.in-Some-first_start.start some) in
    record {
      within = w.1;
      left = rw a.2 (at_statement (statements_of text) text c.statements.statements.items c.statements.at made c.in-Some-first_start.start a.0 c.in_ok-at.at c.statements.invariant.left next (rw (← c.new-pieces.ensures) a.1) (omega (arith, past, w.0)) w.1);
    }
