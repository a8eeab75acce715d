use Rattle.output_laws.proofs.PairLemmas.{says_written}
use Rattle.output_laws.proofs.laws.a_written_dump_is_an_archive.Goals as goal

pub returns : goal.returns
returns c = says_written
