use Rattle.dump_script_laws.proofs.Whole.{formed_read}
use Rattle.dump_script_laws.proofs.laws.scripts_of_well_formed_catalogues_read.Goals as goal

pub returns : goal.returns
returns c = formed_read c.scripts_of_dumps_read_as_their_statements.ensures
