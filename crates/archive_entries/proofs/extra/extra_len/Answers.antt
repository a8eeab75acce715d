use Rattle.archive_entries.proofs.ExtraLemmas.{place_length, name_length}
use Rattle.archive_entries.proofs.extra.extra_len.Goals as goal

pub returns-in-Place : goal.returns-in-Place
returns-in-Place c = rw c.in-Place.is (place_length c.in-Place.state c.in-Place.offset)

pub returns-in-File : goal.returns-in-File
returns-in-File c = rw (c.as_bytes.ensures.value, c.in-File.is) (name_length c.in-File.name)
