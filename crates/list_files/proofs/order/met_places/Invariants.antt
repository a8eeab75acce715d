use Rattle.std.proofs.Common.{take}
use Rattle.list_files.specs.Books.{AreMet}
use Rattle.list_files.proofs.order.met_places.Given as goal

abbrev pub invariant-loop-place : goal.invariant-loop-place
invariant-loop-place l = AreMet (take l.place-index l.places) l.met
