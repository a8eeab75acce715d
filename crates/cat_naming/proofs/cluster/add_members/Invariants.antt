-- The entries of the rows so far stand behind those that were there.
use Rattle.std.proofs.Common.{◌≡◌, ◌++◌, take}
use Rattle.std.specs.List.{flat_map}
use Rattle.cat_names.specs.Naming.{member_entries}
use Rattle.cat_naming.proofs.cluster.add_members.Given as goal

abbrev pub invariant-loop-row : goal.invariant-loop-row
invariant-loop-row l = l.entries.items ≡ l.fn.entries.items ++ flat_map (member_entries l.fn.book.pg_authid) (take l.row-index l.rows)
