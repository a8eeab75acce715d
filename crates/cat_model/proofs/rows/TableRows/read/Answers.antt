use Rattle.std.proofs.Common.{◌<◌, length, IfOk, sym, subst}
use Rattle.cat_model.proofs.RowsSpelled.{full}
use Rattle.cat_model.proofs.rows.TableRows.read.Goals as goal

pub push_read-requires : goal.push_read-requires
push_read-requires c = subst (λ read. IfOk read (λ row. 0 < length row)) (sym c.in_ok-read_line.ensures) (full c.in-Some.line.now c.in-Some.ensures.one_line)
