use Rattle.std.proofs.Common.{◌≡◌, take}
use Rattle.std.specs.List.{fold}
use Rattle.list_files.specs.Books.{AreMet}
use Rattle.list_files.specs.Edits.{put}
use Rattle.list_files.proofs.order.in_order.Given as goal

abbrev pub invariant-loop-place : goal.invariant-loop-place
invariant-loop-place l = (l.places.items ≡ fold put l.fn.first.items (take l.place-index l.mentions)) × AreMet l.places.items l.met
