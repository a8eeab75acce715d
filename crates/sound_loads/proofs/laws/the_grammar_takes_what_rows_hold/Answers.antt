use Rattle.sound_loads.proofs.Good.{grammar_reads}
use Rattle.sound_loads.proofs.laws.the_grammar_takes_what_rows_hold.Goals as goal

pub returns : goal.returns
returns c = grammar_reads
