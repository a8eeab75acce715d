use Rattle.schema_dumps.proofs.Said.{schemas_say}
use Rattle.schema_dumps.proofs.laws.dumps_of_schemas_say_their_schemas.Goals as goal

pub returns : goal.returns
returns c = schemas_say c.scripts_of_well_formed_catalogues_say_what_rows_tell.ensures c.orders_are_whole.ensures
