use Rattle.std.proofs.Common.{sym, append-nil}
use Rattle.std.specs.Prelude.{decimal}
use Rattle.tool_words.proofs.telling.write_outcome.Goals as goal

pub returns-in-Missing : goal.returns-in-Missing
returns-in-Missing g c = rw c.in-Missing.is (rw (sym c.as_bytes.ensures.value) c.write_two.ensures)

pub returns-in-BadScript : goal.returns-in-BadScript
returns-in-BadScript g c = rw c.in-BadScript.is (rw (sym c.place.ensures) (rw (sym (append-nil (decimal c.place.result))) c.write_numbered-in-BadScript.ensures))

pub returns-in-OutOfProfile : goal.returns-in-OutOfProfile
returns-in-OutOfProfile g c = rw c.in-OutOfProfile.is (rw (sym c.what_text.ensures) c.write_two-in-OutOfProfile.ensures)

pub returns-in-TooLarge : goal.returns-in-TooLarge
returns-in-TooLarge g c = rw c.in-TooLarge.is (rw (sym c.limit_text.ensures) c.write_two-in-TooLarge.ensures)

pub returns-in-Memory : goal.returns-in-Memory
returns-in-Memory g c = rw c.in-Memory.is c.write_bytes-in-Memory.ensures

pub returns-in-BadArchive : goal.returns-in-BadArchive
returns-in-BadArchive g c = rw c.in-BadArchive.is (rw (sym c.archive_text.ensures) c.write_bytes-in-BadArchive.ensures)
