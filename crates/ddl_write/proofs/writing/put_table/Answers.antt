use Rattle.std.proofs.Common.{append_assoc}
use Rattle.cat_model.specs.declared.stmt.Stmt.TheVariants as stmt
use Rattle.ddl_write.specs.Said.{said}
use Rattle.ddl_write.proofs.Spelled.{spells}
use Rattle.ddl_write.proofs.writing.put_table.Goals as goal

pub returns-clause-ok : goal.returns-clause-ok
unfolding said
returns-clause-ok c =
    rw (← spells (stmt.CreateTable c.args.q.now c.args.columns.now c.args.checks.now), c.in_ok-extend_from_slice.ensures.items, c.in_ok-put_elements.ensures.ok, c.in_ok-put_all.ensures.ok) (simp append_assoc)
