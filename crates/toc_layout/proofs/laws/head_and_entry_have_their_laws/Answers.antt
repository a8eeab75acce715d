use Rattle.toc_layout.proofs.EntryLaws.{dump_id_laws, body_laws, entry_laws}
use Rattle.toc_layout.proofs.HeadLaws.{head_laws}
use Rattle.toc_layout.proofs.laws.head_and_entry_have_their_laws.Goals as goal

pub returns : goal.returns
returns c = record {
  head = head_laws;
  entry = entry_laws;
  dump_id = dump_id_laws;
  body = body_laws;
}
