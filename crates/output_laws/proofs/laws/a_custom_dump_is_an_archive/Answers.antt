use Rattle.output_laws.proofs.PairLemmas.{says_archive}
use Rattle.output_laws.proofs.laws.a_custom_dump_is_an_archive.Goals as goal

pub returns : goal.returns
returns c = says_archive
