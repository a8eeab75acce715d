-- The entries of the objects so far, and how many each has.
use Rattle.std.proofs.Common.{◌≡◌, length, map, take}
use Rattle.std.specs.List.{enumerate_from, flat_map}
use Rattle.dump_toc.specs.Toc.{taken_at}
use Rattle.dump_toc.proofs.groups.groups_of.Given as goal

abbrev pub invariant-loop-place : goal.invariant-loop-place
invariant-loop-place l =
    (l.groups.drafts.items ≡ flat_map (taken_at l.rows l.select l.standing l.ordered) (enumerate_from 0 (take l.place l.objects)))
    × (l.groups.counts.items ≡ map (λ e. length (taken_at l.rows l.select l.standing l.ordered e)) (enumerate_from 0 (take l.place l.objects)))
