use Rattle.ddl_laws.proofs.Common.{Err, sym, ◌∙◌}
use Rattle.ddl_laws.proofs.ReadingLaws.{exact}
use Rattle.ddl_laws.proofs.laws.the_first_fault_is_told.Goals as goal

pub returns : goal.returns
returns c = record { exact = λ text fault. exact text (Err fault); one = λ text f g h k. let same = sym ((exact text (Err f)).1 h) ∙ (exact text (Err g)).1 k in cc }
