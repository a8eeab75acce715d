use Rattle.cluster_loops.specs.Ids.{oids_of}
use Rattle.object_export.specs.Constraints.{of_table, IsConstrainedRow}
use Rattle.object_loops.proofs.Passes.{adds_first}
use Rattle.object_loops.proofs.constraints.add_constraint.Goals as goal

pub returns : goal.returns
returns c = λ number fits.
    adds_first (IsConstrainedRow (oids_of c.args.ids.now number)) c.args.rows.now c.push.new.rows (of_table (record { table = c.args.table.now; name = c.args.name.now; constraint = c.args.constraint.now })) c.in_ok-row_of.field-0 c.in_ok-push.ensures (c.in_ok-row_of.ensures fits)
