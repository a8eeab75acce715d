-- The names of the checks so far.
use Rattle.std.proofs.Common.{◌≡◌, map, take}
use Rattle.type_effects.proofs.types.check_names.Given as goal

abbrev pub invariant-loop-check : goal.invariant-loop-check
invariant-loop-check l = l.names.items ≡ map (λ c. c.name) (take l.check-index l.checks)
