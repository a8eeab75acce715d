use Rattle.std.proofs.Common.{sym}
use Rattle.entry_ids.specs.Ids.{of_keys}
use Rattle.cluster_loops.proofs.roles.row_of.Goals as goal

pub returns : goal.returns
returns c = c.in_ok-role_row.ensures (of_keys c.args.ids.now) (sym c.in_ok-own.ensures)
