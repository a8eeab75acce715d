use Rattle.std.proofs.Common.{◌≡◌, map, drop}
use Rattle.acl_text.specs.Acls.{items_of}
use Rattle.acl_text.proofs.ReadingLemmas.{in_front}
use Rattle.acl_text.proofs.reading.read_items.Given as goal

abbrev pub invariant-loop-element : goal.invariant-loop-element
invariant-loop-element l = items_of (map (λ e. e.items) l.elements) ≡ in_front l.items.items (items_of (drop l.element-index (map (λ e. e.items) l.elements)))
