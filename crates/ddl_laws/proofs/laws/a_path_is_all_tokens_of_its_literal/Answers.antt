use Rattle.ddl_relation_texts.proofs.PathLaws.{path_found, path_only}
use Rattle.ddl_laws.proofs.laws.a_path_is_all_tokens_of_its_literal.Goals as goal

pub returns : goal.returns
returns c = λ text q. (path_found text q, path_only text q)
