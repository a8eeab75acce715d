use Rattle.ddl_laws.proofs.Common.{Ok}
use Rattle.ddl_laws.proofs.ReadingLaws.{exact}
use Rattle.ddl_laws.proofs.laws.reading_is_exact.Goals as goal

pub returns : goal.returns
returns c = λ text statements. exact text (Ok statements)
