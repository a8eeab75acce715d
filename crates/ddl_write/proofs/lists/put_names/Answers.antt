use Rattle.std.proofs.Common.{append_assoc, arith}
use Rattle.ddl_write.proofs.LineLemmas.{listed_at}
use Rattle.ddl_write.proofs.lists.put_names.Goals as goal

pub returns-in_ok-extend_from_slice-in-len1-up-clause-ok : goal.returns-in_ok-extend_from_slice-in-len1-up-clause-ok
returns-in_ok-extend_from_slice-in-len1-up-clause-ok c =
    rw (listed_at c.args.names.now c.first-item.result (omega arith) c.first-item.is, c.in_ok-extend_from_slice-in-len1-up.ensures.items, c.in_ok-put_each-in-len1-up.ensures.ok, c.in_ok-put_item-in-len1-up.ensures.ok) (simp append_assoc)
