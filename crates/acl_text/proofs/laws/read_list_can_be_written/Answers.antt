use Rattle.acl_text.proofs.CanBeWritten.{acl_can_be_written}
use Rattle.acl_text.proofs.laws.read_list_can_be_written.Goals as goal

pub returns : goal.returns
returns c = λ text items is. acl_can_be_written c.tests_are_exact.ensures.name text items is
