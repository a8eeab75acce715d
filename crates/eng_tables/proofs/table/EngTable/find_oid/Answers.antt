use Rattle.std.proofs.Common.{Some, None, ap, ◌∙◌}
use Rattle.eng_tables.specs.Tables.{Rows, row_at}
use Rattle.eng_tables.proofs.Naming.{row_seen}
use Rattle.eng_tables.proofs.table.EngTable.find_oid.Goals as goal

pub returns-in-Some : goal.returns-in-Some
returns-in-Some g c = row_seen c.self.inside.rows.entries c.args.oid (Some c.in-Some.entry.now) c.in-Some.ensures.value ∙ ap (λ (t : Rows g.row.R.Denot). row_at t c.args.oid) c.self.view_is

pub returns-in-None : goal.returns-in-None
returns-in-None g c = row_seen c.self.inside.rows.entries c.args.oid None c.in-None.ensures.value ∙ ap (λ (t : Rows g.row.R.Denot). row_at t c.args.oid) c.self.view_is
