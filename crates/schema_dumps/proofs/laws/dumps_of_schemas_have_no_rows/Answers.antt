use Rattle.schema_dumps.proofs.Rowless.{none_have_rows}
use Rattle.schema_dumps.proofs.laws.dumps_of_schemas_have_no_rows.Goals as goal

pub returns : goal.returns
returns c = none_have_rows c.orders_are_whole.ensures
