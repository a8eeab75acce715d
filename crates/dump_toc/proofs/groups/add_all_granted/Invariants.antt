-- The grants on the objects so far stand behind what was there.
use Rattle.std.proofs.Common.{◌≡◌, ◌++◌, filter_map, take}
use Rattle.std.specs.List.{enumerate_from}
use Rattle.dump_toc.specs.Toc.{granted_at}
use Rattle.dump_toc.proofs.groups.add_all_granted.Given as goal

abbrev pub invariant-loop-place : goal.invariant-loop-place
invariant-loop-place l = l.drafts.items ≡ l.fn.drafts.items ++ filter_map (granted_at l.rows l.select) (enumerate_from 0 (take l.place l.objects))
