use Rattle.std.proofs.Common.{◌≡◌}
use Rattle.std.specs.List.{range_with_len, filter}
use Rattle.list_files.specs.Edits.{is_session_at}
use Rattle.list_files.proofs.places.session_places.Given as goal

abbrev pub invariant-loop-i : goal.invariant-loop-i
invariant-loop-i l = l.places.items ≡ filter (is_session_at l.entries) (range_with_len 0 l.i)
