use Rattle.std.proofs.Common.{◌≡◌, map, drop}
use Rattle.acl_text.specs.Acls.{elements_of, elements_from, elements_before}
use Rattle.acl_text.proofs.reading.read_elements.Given as goal

abbrev pub invariant-loop-byte : goal.invariant-loop-byte
invariant-loop-byte l = elements_of l.text ≡ elements_before (map (λ e. e.items) l.elements.items) l.element.items (elements_from l.state (drop l.byte-index l.text))
