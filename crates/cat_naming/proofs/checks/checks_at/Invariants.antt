-- The checks so far are those at the places so far.
use Rattle.std.proofs.Common.{◌≡◌, take}
use Rattle.std.specs.List.{filter_map, slice_get}
use Rattle.std.specs.Option.{option_and_then}
use Rattle.cat_naming.specs.Types.{check_of}
use Rattle.cat_naming.proofs.checks.checks_at.Given as goal

abbrev pub invariant-loop-place : goal.invariant-loop-place
invariant-loop-place l = l.checks.items ≡ filter_map (λ p. option_and_then check_of (slice_get l.rows p)) (take l.place-index l.places)
