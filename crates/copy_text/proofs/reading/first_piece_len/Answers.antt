use Rattle.std.proofs.Common.{Some, None}
use Rattle.copy_text.proofs.PieceLemmas.{first_piece_ends, first_piece_cut, run_escaped, first_piece_open, found_behind}
use Rattle.copy_text.proofs.reading.first_piece_len.Goals as goal

pub returns-then-line-place-eq9 : goal.returns-then-line-place-eq9
returns-then-line-place-eq9 c =
    let line = c.args.line.now in
    let so_far = c.loop-found.invariant in
    let found = found_behind line c.loop-found.at (Some c.in-Some.found) c.in-Some.ensures in
    first_piece_cut line c.loop-found.at c.in-Some.found found.0.high so_far.0 so_far.1 found.0.before c.if-line-place-eq9.true

pub loop-found-preserved : goal.loop-found-preserved
loop-found-preserved c =
    let line = c.args.line.now in
    let so_far = c.loop-found.invariant in
    let found = found_behind line c.loop-found.at (Some c.in-Some.found) c.in-Some.ensures in
    run_escaped line c.loop-found.at c.in-Some.found found.0.high so_far.0 so_far.1 found.0.before found.1 c.if-line-place-eq9.false c.if-line-place-lt2.false

pub returns-then-line-place-lt2 : goal.returns-then-line-place-lt2
returns-then-line-place-lt2 c =
    let line = c.args.line.now in
    let so_far = c.loop-found.invariant in
    let found = found_behind line c.loop-found.at (Some c.in-Some.found) c.in-Some.ensures in
    first_piece_open line c.loop-found.at c.in-Some.found found.0.high so_far.0 so_far.1 found.0.before found.1 c.if-line-place-eq9.false c.if-line-place-lt2.true

pub returns-in_default : goal.returns-in_default
returns-in_default c =
    let so_far = c.loop-found.invariant in
    first_piece_ends c.args.line.now c.loop-found.at so_far.0 so_far.1 (found_behind c.args.line.now c.loop-found.at None c.in_default.ensures)
