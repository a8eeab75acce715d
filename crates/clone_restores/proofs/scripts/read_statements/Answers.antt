use Rattle.ddl_read.specs.Spellings.{said}
use Rattle.ddl_laws.proofs.Respelled.{read_is_writable}
use Rattle.sound_texts.proofs.Writable.{all_fit}
use Rattle.clone_restores.proofs.scripts.read_statements.Goals as goal

-- what is read is fit
pub returns-clause-fit : goal.returns-clause-fit
returns-clause-fit c = all_fit (said c.in_ok-read_stmts.field-0.items) (read_is_writable c.args.text.now c.in_ok-read_stmts.field-0.items c.in_ok-read_stmts.ensures)
