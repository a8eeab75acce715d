use Rattle.std.proofs.Common.{sym}
use Rattle.entry_ids.specs.Ids.{of_keys}
use Rattle.cluster_loops.proofs.schemas.owned_row.Goals as goal

pub returns : goal.returns
returns c = c.in_ok-schema_row.ensures (of_keys c.args.ids.now) c.args.owner.now c.args.grants.now (sym c.in_ok-own.ensures) (sym c.in_ok-by.ensures) c.in_ok-rights.ensures
