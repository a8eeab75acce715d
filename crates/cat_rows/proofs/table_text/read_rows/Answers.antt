use Rattle.std.proofs.Common.{◌≡◌, ℕ, ◌+◌, ◌-◌, ◌<◌, ◌≤◌, ◌++◌, List, [], ◌∷◌, map, take, drop, sym, ap, ◌∙◌, arith}
use Rattle.std.proofs.lemmas.Result.{err_from_is_err_and}
use Rattle.copy_text.specs.Lines.{lines, before_end_mark}
use Rattle.cat_rows.specs.declared.cell.Cell.{Cell}
use Rattle.cat_rows.specs.Kinds.{columns}
use Rattle.cat_rows.specs.Reading.{table_of, table_from, at_line, cells_of}
use Rattle.cat_rows.proofs.ListLemmas.{map_push}
use Rattle.cat_rows.proofs.FrontLemmas.{with_front, table_of-start, table_step, table_fail, table_end, FailsTable-from}
use Rattle.cat_rows.proofs.LineLemmas.{first_line-no_newline, before_end_mark-more, no_more_rows}
use Rattle.cat_rows.proofs.table_text.read_rows.Goals as goal

pub loop-start-init : goal.loop-start-init
loop-start-init g c =
    let table = g.R.TableRow.table in
    let none : map g.R.TableRow.cells c.new-rows.result.items ≡ [] = ap (map g.R.TableRow.cells) c.new-rows.ensures.items in
    (omega arith, omega arith, rw none (table_of-start table c.args.text.now))

pub read_numbered-requires : goal.read_numbered-requires
read_numbered-requires g c =
    let text = c.args.text.now in
    let line = take (c.in-Row.end - c.in-Row.start) (drop c.in-Row.start text) in
    record { one_line = first_line-no_newline (drop c.loop-start.at text) line (lines (drop c.in-Row.next text)) c.in-Row.ensures.line.6 }

pub returns-in_err-read_numbered : goal.returns-in_err-read_numbered
returns-in_err-read_numbered g c =
    let table = g.R.TableRow.table in
    let text = c.args.text.now in
    let line = take (c.in-Row.end - c.in-Row.start) (drop c.in-Row.start text) in
    let more = lines (drop c.in-Row.next text) in
    let done = map g.R.TableRow.cells c.loop-start.rows.items in
    let number = c.loop-start.number in
    let here : before_end_mark (lines (drop c.loop-start.at text)) ≡ line ∷ before_end_mark more = ap before_end_mark c.in-Row.ensures.line.6 ∙ before_end_mark-more line more c.in-Row.ensures.line.5 in
    let so_far : table_of table text ≡ with_front done (table_from (columns table) number (line ∷ before_end_mark more)) = c.loop-start.invariant.2 ∙ ap (λ (ls : List (List ℕ)). with_front done (table_from (columns table) number ls)) here in
    let p = err_from_is_err_and c.from_residual.result c.from_residual.ensures.1 in
    rw (p.1, p.2) (FailsTable-from c.in_err-read_numbered.field-0.0 (at_line number (cells_of (columns table) line)) (table_of table text)
    (λ f is. table_fail (columns table) number line (before_end_mark more) f done (table_of table text) is so_far)
    c.in_err-read_numbered.ensures)

pub loop-start-preserved : goal.loop-start-preserved
loop-start-preserved g c =
    let table = g.R.TableRow.table in
    let text = c.args.text.now in
    let line = take (c.in-Row.end - c.in-Row.start) (drop c.in-Row.start text) in
    let more = lines (drop c.in-Row.next text) in
    let done = map g.R.TableRow.cells c.loop-start.rows.items in
    let number = c.loop-start.number in
    let row = c.in_ok-read_numbered.field-0 in
    let here : before_end_mark (lines (drop c.loop-start.at text)) ≡ line ∷ before_end_mark more = ap before_end_mark c.in-Row.ensures.line.6 ∙ before_end_mark-more line more c.in-Row.ensures.line.5 in
    let so_far : table_of table text ≡ with_front done (table_from (columns table) number (line ∷ before_end_mark more)) = c.loop-start.invariant.2 ∙ ap (λ (ls : List (List ℕ)). with_front done (table_from (columns table) number ls)) here in
    let step = table_step (columns table) number line (before_end_mark more) (g.R.TableRow.cells row) done (table_of table text) c.in_ok-read_numbered.ensures so_far in
    let rest = table_from (columns table) (number + 1) (before_end_mark more) in
    let pushed : map g.R.TableRow.cells c.push.new.self.items ≡ done ++ g.R.TableRow.cells row ∷ [] = ap (map g.R.TableRow.cells) c.in_ok-push.ensures.items ∙ map_push g.R.TableRow.cells c.loop-start.rows.items row in
    let low : number ≤ c.loop-start.at + 1 = c.loop-start.invariant.1 in
    let up : c.loop-start.at < c.in-Row.next = c.in-Row.ensures.line.3 in
    (c.in-Row.ensures.line.4, omega arith, step ∙ ap (λ (xs : List (List Cell)). with_front xs rest) (sym pushed))

pub returns : goal.returns
returns g c =
    let table = g.R.TableRow.table in
    let text = c.args.text.now in
    let done = map g.R.TableRow.cells c.loop-start.rows.items in
    let number = c.loop-start.number in
    let none : before_end_mark (lines (drop c.loop-start.at text)) ≡ [] = no_more_rows text c.loop-start.at c.next_line.result c.next_line.ensures.line c.in_default.not-Row in
    table_end (columns table) number done (table_of table text) (c.loop-start.invariant.2 ∙ ap (λ (ls : List (List ℕ)). with_front done (table_from (columns table) number ls)) none)
