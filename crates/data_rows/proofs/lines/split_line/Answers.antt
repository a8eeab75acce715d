use Rattle.std.proofs.Common.{drop}
use Rattle.std.specs.List.{slice_range}
use Rattle.copy_text.specs.Lines.{lines}
use Rattle.data_rows.proofs.LineLemmas.{data_lines-first, first_line-no_newline}
use Rattle.data_rows.proofs.lines.split_line.Goals as goal

pub returns-in-Row-clause-some : goal.returns-in-Row-clause-some
returns-in-Row-clause-some c =
    data_lines-first c.args.text.now c.in-Row.start c.in-Row.end c.in-Row.next c.in-Row.ensures.line

pub returns-in-Row-clause-one_line : goal.returns-in-Row-clause-one_line
returns-in-Row-clause-one_line c =
    let text = c.args.text.now in
    first_line-no_newline text (slice_range text c.in-Row.start c.in-Row.end) (lines (drop c.in-Row.next text)) c.in-Row.ensures.line.6
