use Rattle.ddl_syntax_laws.proofs.Commands.{statement_laws, constraint_body_laws, index_body_laws}
use Rattle.ddl_laws.proofs.laws.definitions_have_their_laws.Goals as goal

pub returns : goal.returns
returns c = record { statements = statement_laws; constraints = constraint_body_laws; indexes = index_body_laws }
