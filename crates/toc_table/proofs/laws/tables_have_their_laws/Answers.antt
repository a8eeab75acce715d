use Rattle.toc_table.proofs.TocLaws.{toc_laws}
use Rattle.toc_table.proofs.laws.tables_have_their_laws.Goals as goal

pub returns : goal.returns
returns c = toc_laws
