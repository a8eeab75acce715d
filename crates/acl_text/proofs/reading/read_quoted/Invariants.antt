use Rattle.std.proofs.Common.{◌≡◌, false, length}
use Rattle.acl_text.specs.Acls.{quoted_name}
use Rattle.acl_text.proofs.ReadingLemmas.{name_before}
use Rattle.acl_text.proofs.reading.read_quoted.Given as goal

abbrev pub invariant-loop-byte : goal.invariant-loop-byte
invariant-loop-byte l = quoted_name false l.text ≡ name_before l.name.items (quoted_name false l.rest)

abbrev pub decreases-loop-byte : goal.decreases-loop-byte
decreases-loop-byte l = length l.rest
