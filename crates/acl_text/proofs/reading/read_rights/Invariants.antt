use Rattle.std.proofs.Common.{◌≡◌, false, length}
use Rattle.acl_text.specs.Acls.{rights_from, rights_of}
use Rattle.acl_text.proofs.ReadingLemmas.{in_front}
use Rattle.acl_text.proofs.reading.read_rights.Given as goal

abbrev pub invariant-loop-letter : goal.invariant-loop-letter
invariant-loop-letter l = rights_of l.letters ≡ in_front l.rights.items (rights_from false l.rest)

abbrev pub decreases-loop-letter : goal.decreases-loop-letter
decreases-loop-letter l = length l.rest
