use Rattle.std.proofs.Common.{sym}
use Rattle.cluster_loops.specs.Ids.{of_keys}
use Rattle.object_loops.proofs.bodies.row_of.Goals as goal

pub returns : goal.returns
returns c = λ good. c.in_ok-body_row.ensures (of_keys c.args.ids.now) c.args.view.now (sym c.in_ok-own.ensures) (sym c.in_ok-of.ensures) good
