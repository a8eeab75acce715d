use Rattle.std.proofs.Common.{sym, ap, ◌∙◌}
use Rattle.std.specs.Cmp.{nat_cmp_total}
use Rattle.std.specs.FinMap.{entries, nat_cmp-IsAntisymmetric}
use Rattle.cat_model.proofs.MapsSeen.{entries_seen}
use Rattle.eng_tables.specs.Tables.{Rows}
use Rattle.eng_tables.proofs.table.EngTable.iter.Goals as goal

pub returns : goal.returns
returns g c =
    c.iter.ensures.rest
    ∙ sym (entries_seen nat_cmp_total nat_cmp-IsAntisymmetric c.self.inside.rows.entries c.iter.ensures.ordered)
    ∙ ap (λ (t : Rows g.row.R.Denot). entries t) c.self.view_is
