use Rattle.std.proofs.Common.{sym}
use Rattle.cluster_loops.specs.Ids.{of_keys}
use Rattle.object_loops.proofs.indexes.row_of.Goals as goal

pub returns : goal.returns
returns c = λ good. c.in_ok-index_row.ensures (of_keys c.args.ids.now) (sym c.in_ok-own.ensures) (sym c.in_ok-of.ensures) good
