use Rattle.std.proofs.Common.{subst}
use Rattle.eng_tables.specs.Tables.{Rows, IsNext}
use Rattle.eng_tables.proofs.Naming.{next_seen}
use Rattle.eng_tables.proofs.table.EngTable.next_oid.Goals as goal

pub returns : goal.returns
returns g c = subst (λ (t : Rows g.row.R.Denot). IsNext c.args.from t c.next_in.result) c.self.view_is
    (next_seen c.self.inside.rows.entries c.args.from c.next_in.result c.next_in.ensures.there c.next_in.ensures.least c.next_in.ensures.none)
