use Rattle.acl_text.proofs.Exact.{written_is_read}
use Rattle.acl_text.proofs.laws.written_list_reads.Goals as goal

pub returns : goal.returns
returns c = λ items is. written_is_read c.tests_are_exact.ensures.name items is
