use Rattle.std.proofs.Common.{◌≡◌, ◌++◌, [], sym, arith}
use Rattle.std.proofs.lemmas.List.{append-nil}
use Rattle.copy_text.proofs.WriteLemmas.{row_step, fields_more, spell_row_none}
use Rattle.copy_text.proofs.writing.write_line.Goals as goal

pub loop-i-init : goal.loop-i-init
loop-i-init c =
    let start : c.args.out.now.items ≡ c.args.out.now.items ++ [] = sym (append-nil c.args.out.now.items) in
    (rw spell_row_none start, λ k d lt. absurd (omega arith))

pub loop-i-preserved : goal.loop-i-preserved
loop-i-preserved c =
    let row = c.args.row.now in
    let i = c.loop-i.i in
    let field = c.index-row-i.result in
    let lt = c.loop-i-test.true in (
      row_step row i field c.args.out.now.items c.loop-i.out.items c.write_separator.new.out.items c.write_field.new.out.items lt (sym c.index-row-i.is) c.loop-i.invariant.0 c.in_ok-write_separator.ensures.ok c.in_ok-write_field.ensures.ok,
      fields_more row i field lt (sym c.index-row-i.is) c.loop-i.invariant.1 c.in_ok-write_field.ensures.field,
    )
