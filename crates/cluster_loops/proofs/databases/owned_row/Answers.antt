use Rattle.std.proofs.Common.{sym}
use Rattle.entry_ids.specs.Ids.{of_keys}
use Rattle.cluster_loops.proofs.databases.owned_row.Goals as goal

pub returns : goal.returns
returns c = c.in_ok-database_row.ensures (of_keys c.args.ids.now) c.args.owner.now c.args.current.now (sym c.in_ok-own.ensures) (sym c.in_ok-by.ensures) c.in_ok-encoding.ensures c.is_same-same.ensures
