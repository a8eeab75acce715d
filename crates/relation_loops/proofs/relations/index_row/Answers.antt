use Rattle.std.proofs.Common.{sym}
use Rattle.cluster_loops.specs.Ids.{of_keys}
use Rattle.relation_loops.proofs.relations.index_row.Goals as goal

pub returns : goal.returns
returns c = λ named table owner. c.in_ok-index_class.ensures named (of_keys c.args.ids.now) c.args.owner.now table owner (sym c.in_ok-own.ensures) (sym c.in_ok-within.ensures) (sym c.in_ok-by.ensures)
