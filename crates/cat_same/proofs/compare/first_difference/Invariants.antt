-- The least difference among the entries so far, with what is agreed on beside those that are ahead.
use Rattle.std.proofs.Common.{Bor, option_map}
use Rattle.cat_model.specs.declared.key.Key.{Key}
use Rattle.cat_same.proofs.Ahead.{IsSoFar}
use Rattle.cat_same.proofs.compare.first_difference.Given as goal

abbrev pub invariant-loop-key : goal.invariant-loop-key
invariant-loop-key l = IsSoFar l.of l.other l.key-iterator (option_map (λ (k : Bor Key). k.now) l.least)
