-- The lines so far stand behind what was there.
use Rattle.std.proofs.Common.{◌≡◌, ◌++◌, codes, map, take}
use Rattle.std.specs.List.{flat_map}
use Rattle.dump_stmts.proofs.views.put_more_lines.Given as goal

abbrev pub invariant-loop-column : goal.invariant-loop-column
invariant-loop-column l = l.out.items ≡ l.fn.out.items ++ flat_map (λ line. codes ",\n    " ++ line) (map (λ c. c.items) (take l.column-index l.columns))
