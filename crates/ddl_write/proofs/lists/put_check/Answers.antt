use Rattle.std.proofs.Common.{append_assoc}
use Rattle.ddl_spelling.specs.Tables.{check_text}
use Rattle.ddl_write.proofs.lists.put_check.Goals as goal

pub returns-clause-ok : goal.returns-clause-ok
unfolding check_text
returns-clause-ok c =
    rw (c.in_ok-extend_from_slice-3.ensures.items, c.in_ok-extend_from_slice-2.ensures.items, c.as_bytes.ensures.value, c.in_ok-extend_from_slice.ensures.items, c.in_ok-put_item.ensures.ok) (simp append_assoc)
