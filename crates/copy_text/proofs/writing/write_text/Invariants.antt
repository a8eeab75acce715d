use Rattle.std.proofs.Common.{◌≡◌, ◌++◌, length}
use Rattle.copy_text.specs.Rows.{Extends, spell_text}
use Rattle.copy_text.proofs.writing.write_text.Given as goal

abbrev pub invariant-loop-at : goal.invariant-loop-at
invariant-loop-at l = (l.out.items ++ spell_text l.rest ≡ l.fn.out.items ++ spell_text l.text) × Extends l.fn.out.items l.out.items

abbrev pub decreases-loop-at : goal.decreases-loop-at
decreases-loop-at l = length l.rest
