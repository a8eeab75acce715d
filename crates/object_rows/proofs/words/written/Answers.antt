use Rattle.object_rows.proofs.Quoting.{written_utf8}
use Rattle.object_rows.proofs.words.written.Goals as goal

pub text_of_bytes-requires : goal.text_of_bytes-requires
text_of_bytes-requires c = rw (c.in_ok-write_name.ensures.ok, c.new-bytes.ensures.items) (written_utf8 _ c.as_bytes.ensures.name.utf8)
