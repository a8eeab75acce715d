use Rattle.std.proofs.Common.{◌≡◌, ◌++◌, map, take}
use Rattle.cat_rows.specs.Writing.{text_of, AreRowsOf}
use Rattle.cat_rows.proofs.table_text.write_lines.Given as goal

abbrev pub invariant-loop-row : goal.invariant-loop-row
invariant-loop-row g l = (l.out.items ≡ l.initial.out.items ++ text_of (map (λ r. g.R.TableRow.cells r.now) (take l.row-index l.rows)))
    × AreRowsOf g.R.TableRow.table (map (λ r. g.R.TableRow.cells r.now) (take l.row-index l.rows))
