-- The tables of the keys so far.
use Rattle.std.proofs.Common.{◌≡◌, map, take}
use Rattle.obj_beside.specs.Keys.{by_table}
use Rattle.obj_beside.proofs.keys.tables_of.Given as goal

abbrev pub invariant-loop-key : goal.invariant-loop-key
invariant-loop-key l = l.tables.items ≡ map by_table (take l.key-index l.keys)
