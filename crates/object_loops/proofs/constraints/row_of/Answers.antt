use Rattle.std.proofs.Common.{sym, ap}
use Rattle.cluster_loops.specs.Ids.{of_keys}
use Rattle.object_rows.specs.declared.parts.ConstraintOids.{ConstraintOids}
use Rattle.object_loops.proofs.constraints.row_of.Goals as goal

pub returns : goal.returns
returns c = λ good.
    let are = sym c.in_ok-oids.ensures in
    c.in_ok-constraint_row.ensures (of_keys c.args.ids.now) c.args.table.now (ap (λ (o : ConstraintOids). o.oid) are) (ap (λ (o : ConstraintOids). o.table) are) (ap (λ (o : ConstraintOids). o.index) are) (ap (λ (o : ConstraintOids). o.parent) are) good
