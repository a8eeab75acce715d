use Rattle.tool_laws.proofs.Again.{found_same}
use Rattle.tool_laws.proofs.laws.pg_catcmp_finds_the_same_schemas_the_same.Goals as goal

pub returns : goal.returns
returns c = found_same
