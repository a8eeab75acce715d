use Rattle.ddl_grammar_laws.proofs.GrantLaws.{granted_laws, revoked_laws}
use Rattle.ddl_grammar_laws.proofs.laws.grants_have_their_laws.Goals as goal

pub returns : goal.returns
returns c = record { granted = granted_laws; revoked = revoked_laws }
