use Rattle.std.proofs.Common.{sym}
use Rattle.cluster_loops.specs.Ids.{oids_of}
use Rattle.object_loops.proofs.constraints.row_of_check.Goals as goal

pub returns : goal.returns
returns c = λ number domain good. c.in_ok-check_row.ensures (oids_of c.args.ids.now number) c.args.path.now domain (sym c.in_ok-own.ensures) (sym c.in_ok-of.ensures) good
