-- The fields so far, before those at the places that are left, are the key.
use Rattle.std.proofs.Common.{◌≡◌, drop}
use Rattle.row_keys.specs.ByPlaces.{key_at}
use Rattle.row_keys.proofs.ByPlaces.{before}
use Rattle.row_keys.proofs.key_places.row_key.Given as goal

abbrev pub invariant-loop-place : goal.invariant-loop-place
invariant-loop-place l = key_at l.columns l.places l.row ≡ before l.key (key_at l.columns (drop l.place-index l.places) l.row)
