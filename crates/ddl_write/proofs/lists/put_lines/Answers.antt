use Rattle.std.proofs.Common.{append_assoc, arith}
use Rattle.ddl_write.proofs.LineLemmas.{lines_at}
use Rattle.ddl_write.proofs.lists.put_lines.Goals as goal

pub returns-in_ok-put_each-in-len1-up-clause-ok : goal.returns-in_ok-put_each-in-len1-up-clause-ok
returns-in_ok-put_each-in-len1-up-clause-ok g c =
    rw (lines_at g.T.Put.text c.args.items.now c.first-item.result (omega arith) c.first-item.is, c.in_ok-put_each-in-len1-up.ensures.ok, c.in_ok-put_item-in-len1-up.ensures.ok) (simp append_assoc)
