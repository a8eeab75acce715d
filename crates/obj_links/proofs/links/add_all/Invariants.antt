-- The links of those so far stand behind the others.
use Rattle.std.proofs.Common.{◌≡◌, ◌++◌, take}
use Rattle.std.specs.List.{flat_map}
use Rattle.obj_links.proofs.links.add_all.Given as goal

abbrev pub invariant-loop-one : goal.invariant-loop-one
invariant-loop-one g l = l.out.items ≡ l.fn.out.items ++ flat_map (g.L.Linked.links l.beside) (take l.one-index l.all)
