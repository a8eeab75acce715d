use Rattle.object_loops.proofs.constraints.oids_in.Goals as goal

pub returns : goal.returns
returns c = λ i. record { oid = c.in_ok-oid.ensures i; table = c.in_ok-of.ensures i; index = c.in_ok-index.ensures i; parent = c.in_ok-parent.ensures i }
