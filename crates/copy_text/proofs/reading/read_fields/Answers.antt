use Rattle.std.proofs.Common.{◌≡◌, ◌<◌, ◌+◌, ℕ, List, Result, Ok, length, take, drop, ap, ◌∙◌, arith}
use Rattle.std.proofs.lemmas.List.{drop-drop}
use Rattle.std.proofs.lemmas.Result.{err_from_is_err_and}
use Rattle.copy_text.specs.declared.fault.CopyFault.{CopyFault}
use Rattle.copy_text.specs.Pieces.{pieces}
use Rattle.copy_text.specs.Rows.{Field}
use Rattle.copy_text.specs.Reading.{Fails, field_of, fields_of, row_of}
use Rattle.copy_text.proofs.RowLemmas.{with_front, starts, fields_last, fields_more, fields_fail}
use Rattle.copy_text.proofs.reading.read_fields.Goals as goal

pub loop-row-init : goal.loop-row-init
loop-row-init c =
    let line = c.args.line.now in
    let begins : with_front c.new-row.result (fields_of 0 (pieces line)) ≡ row_of line = rw c.new-row.ensures (starts line) in
    (omega arith, begins)

at_rest : (front : List Field) (start : ℕ) (line rest : List ℕ) (total : Result (List Field) CopyFault) → rest ≡ drop start line
    → with_front front (fields_of start (pieces (drop start line))) ≡ total → with_front front (fields_of start (pieces rest)) ≡ total
at_rest front start line rest total is so_far = rw is so_far

pub returns-in_err-field : goal.returns-in_err-field
returns-in_err-field c =
    let p = err_from_is_err_and c.from_residual.result c.from_residual.ensures.1 in
    let rest = c.split_at.result.1.now in
    let n = c.first_piece_len-len.result in
    let so_far = at_rest c.loop-row.row c.loop-row.start c.args.line.now rest (row_of c.args.line.now) c.split_at.ensures.back c.loop-row.invariant.1 in
    let read : Fails c.in_err-field.field-0.0 (field_of c.loop-row.start (take n rest)) = rw (← c.split_at-in-loop-row.ensures.front) c.in_err-field.ensures in
    rw (p.1, p.2) (fields_fail c.loop-row.row c.loop-row.start n rest c.first_piece_len-len.ensures (row_of c.args.line.now) so_far c.in_err-field.field-0.0 read)

pub returns-then-len-rest : goal.returns-then-len-rest
returns-then-len-rest c =
    let rest = c.split_at.result.1.now in
    let n = c.first_piece_len-len.result in
    let so_far = at_rest c.loop-row.row c.loop-row.start c.args.line.now rest (row_of c.args.line.now) c.split_at.ensures.back c.loop-row.invariant.1 in
    let read : field_of c.loop-row.start (take n rest) ≡ Ok c.in_ok-field.field = rw (← c.split_at-in-loop-row.ensures.front) c.in_ok-field.ensures in
    rw c.in_ok-push.ensures.ok (fields_last c.loop-row.row c.loop-row.start n rest c.first_piece_len-len.ensures (row_of c.args.line.now) so_far c.in_ok-field.field c.if-len-rest.true read)

pub loop-row-preserved : goal.loop-row-preserved
loop-row-preserved c =
    let line = c.args.line.now in
    let rest = c.split_at.result.1.now in
    let start = c.loop-row.start in
    let n = c.first_piece_len-len.result in
    let within = c.first_piece_len-len.ensures.within in
    let lt : n < length rest = omega arith in
    let so_far = at_rest c.loop-row.row start line rest (row_of line) c.split_at.ensures.back c.loop-row.invariant.1 in
    let read : field_of start (take n rest) ≡ Ok c.in_ok-field.field = rw (← c.split_at-in-loop-row.ensures.front) c.in_ok-field.ensures in
    let more = fields_more c.loop-row.row start n rest c.first_piece_len-len.ensures (row_of line) so_far c.in_ok-field.field lt read in
    let behind : drop (n + 1) rest ≡ drop (start + (n + 1)) line = ap (drop (n + 1)) c.split_at.ensures.back ∙ drop-drop (n + 1) start line in
    let place : start + n + 1 ≡ start + (n + 1) = omega arith in
    (omega (arith, c.split_at.ensures.back_len), rw (c.in_ok-push.ensures.ok, ← behind, ← place) more)
