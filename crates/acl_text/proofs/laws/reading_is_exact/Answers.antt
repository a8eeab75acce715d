use Rattle.acl_text.proofs.Exact.{acl_exact}
use Rattle.acl_text.proofs.laws.reading_is_exact.Goals as goal

pub returns : goal.returns
returns c = λ items text. acl_exact c.tests_are_exact.ensures.name items text
