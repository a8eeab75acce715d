use Rattle.output_laws.proofs.PairLemmas.{says_script}
use Rattle.output_laws.proofs.laws.a_plain_dump_is_a_script.Goals as goal

pub returns : goal.returns
returns c = says_script
