use Rattle.std.proofs.Common.{◌≡◌, length, arith}
use Rattle.std.specs.List.{position_or_len}
use Rattle.list_files.specs.Lines.{is_newline}
use Rattle.list_files.proofs.Splits.{cut_behind, uncut}
use Rattle.list_files.proofs.line.split_line.Goals as goal

pub returns-then-end-text-clause-lines : goal.returns-then-end-text-clause-lines
returns-then-end-text-clause-lines c = cut_behind c.args.text.now c.part_len-end.result c.part_len-end.ensures.value c.if-end-text.true

pub returns-else-end-text-clause-lines : goal.returns-else-end-text-clause-lines
returns-else-end-text-clause-lines c =
    let all : position_or_len is_newline c.args.text.now ≡ length c.args.text.now = omega (arith, c.part_len-end.ensures.value, c.part_len-end.ensures.within, c.if-end-text.false) in
    uncut c.args.text.now all
