-- Each entry is in the map exactly where each that is left is.
use Rattle.std.proofs.Common.{◌≡◌, Some}
use Rattle.std.specs.FinMap.{get}
use Rattle.same_maps.proofs.Keys.{AreLeft}
use Rattle.same_maps.proofs.map.are_all_in.Given as goal

abbrev pub invariant-loop-key : goal.invariant-loop-key
invariant-loop-key l = AreLeft (λ k v. get l.named k ≡ Some v) l.fn.entries l.key-iterator
