use Rattle.std.proofs.Common.{◌∙◌, ap, pos}
use Rattle.oid_groups.specs.Orders.{by_number}
use Rattle.table_rows.specs.Tables.{unsorted_oids, table_oids}
use Rattle.table_rows.proofs.InOrder.{in_order}
use Rattle.table_rows.proofs.tables.table_oids.Goals as goal

pub returns : goal.returns
unfolding table_oids
returns c =
    in_order c.in_ok-oids.oids.items c.sort.new.self.items c.in_ok-sort.ensures.sorted c.sort.ensures.stable
    ∙ ap (by_number (λ oid. pos oid)) (c.in_ok-oids.ensures ∙ ap unsorted_oids c.as_slice.ensures)
