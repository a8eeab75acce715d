use Rattle.ddl_admin.proofs.Common.{◌≡◌, ◌-◌, List, drop, length, AreLeft, items_from, Right, more_rights, all_of}
use Rattle.ddl_admin.proofs.rights.rights_from.Given as goal

-- the rights so far and those behind the place are the list
abbrev pub invariant-rights : goal.invariant-rights
invariant-rights l =
    (so_far : List Right) × AreLeft (more_rights l.fn.first) (items_from (more_rights l.fn.first) l.fn.first (drop l.fn.from l.pieces)) l.pieces so_far l.rights l.at × (l.rights ≡ all_of l.fn.first so_far)

abbrev pub decreases-rights : goal.decreases-rights
decreases-rights l = length l.pieces - l.at
