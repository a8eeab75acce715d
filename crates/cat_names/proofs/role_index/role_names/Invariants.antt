-- The set is that of the names so far.
use Rattle.std.proofs.Common.{take}
use Rattle.cat_model.specs.Values.{bytes_cmp}
use Rattle.cat_names.specs.Indexed.{AreKeys}
use Rattle.cat_names.specs.Lookups.{role_names}
use Rattle.cat_names.proofs.role_index.role_names.Given as goal

abbrev pub invariant-loop-row : goal.invariant-loop-row
invariant-loop-row l = AreKeys bytes_cmp l.names (role_names (take l.row-index l.rows))
