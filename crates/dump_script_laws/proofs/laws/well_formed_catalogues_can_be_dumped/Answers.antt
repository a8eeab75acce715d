use Rattle.dump_script_laws.proofs.Orders.{is_dump}
use Rattle.dump_script_laws.proofs.laws.well_formed_catalogues_can_be_dumped.Goals as goal

pub returns : goal.returns
returns c = is_dump
