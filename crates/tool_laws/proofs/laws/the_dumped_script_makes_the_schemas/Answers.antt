use Rattle.tool_laws.proofs.Saying.{script_remakes}
use Rattle.tool_laws.proofs.laws.the_dumped_script_makes_the_schemas.Goals as goal

pub returns : goal.returns
returns c =
    script_remakes c.openings_are_schemas.ensures c.catalogues_of_schemas_are_well_formed.ensures c.well_formed_is_without_fault.ensures c.read_rows_can_be_written.ensures
    c.dumps_of_schemas_say_their_schemas.ensures c.dumps_of_schemas_have_no_rows.ensures
