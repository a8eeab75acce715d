use Rattle.std.proofs.Common.{append_assoc, arith}
use Rattle.cat_model.specs.declared.table.CheckDef.{CheckDef}
use Rattle.ddl_write.proofs.LineLemmas.{both_lines_at}
use Rattle.ddl_spelling.specs.Tables.{column_text, check_text}
use Rattle.ddl_write.proofs.lists.put_elements.Goals as goal

pub returns-in_ok-put_each-in-len1-up-2-clause-ok : goal.returns-in_ok-put_each-in-len1-up-2-clause-ok
returns-in_ok-put_each-in-len1-up-2-clause-ok c =
    rw (both_lines_at column_text (λ (k : CheckDef). check_text k.name k.text) c.args.columns.now c.args.checks.now c.first-item.result (omega arith) c.first-item.is, c.in_ok-put_each-in-len1-up-2.ensures.ok, c.in_ok-put_each-in-len1-up.ensures.ok, c.in_ok-put_item-in-len1-up.ensures.ok) (simp append_assoc)
