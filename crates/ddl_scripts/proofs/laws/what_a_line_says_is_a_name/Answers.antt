use Rattle.ddl_scripts.proofs.LineNames.{said_is_a_name}
use Rattle.ddl_scripts.proofs.laws.what_a_line_says_is_a_name.Goals as goal

pub returns : goal.returns
returns c = said_is_a_name
