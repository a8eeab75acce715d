use Rattle.acl_text.proofs.Utf8Lemmas.{acl_text}
use Rattle.acl_text.proofs.laws.written_list_is_a_text.Goals as goal

pub returns : goal.returns
returns c = λ items is. acl_text items is
