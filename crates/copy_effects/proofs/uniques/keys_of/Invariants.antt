-- The keys so far are those that have been gone over.
use Rattle.std.proofs.Common.{◌≡◌, take}
use Rattle.copy_effects.proofs.uniques.keys_of.Given as goal

abbrev pub invariant-loop-unique : goal.invariant-loop-unique
invariant-loop-unique l = l.keys.items ≡ take l.unique-index l.uniques
