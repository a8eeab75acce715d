-- The items of a list of columns are told apart.
use Rattle.ddl_grammar_laws.proofs.Common.{arith, comma, sign_agrees, lead_begins, AreApart, name_laws, sign_laws, more_names}

pub names_apart : AreApart comma more_names
names_apart = search (sign_laws, name_laws, sign_agrees, lead_begins, arith)
