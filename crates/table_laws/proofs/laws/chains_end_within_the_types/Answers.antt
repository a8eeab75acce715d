use Rattle.cat_book.proofs.ChainEnds.{ends_at_all}
use Rattle.table_laws.proofs.laws.chains_end_within_the_types.Goals as goal

pub returns : goal.returns
returns c = ends_at_all
