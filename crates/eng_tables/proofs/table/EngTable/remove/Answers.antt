use Rattle.std.proofs.Common.{Some, None, option_map, sym, ap, subst, ◌∙◌}
use Rattle.std.specs.Cmp.{nat_cmp_total}
use Rattle.std.specs.FinMap.{from_entries, remove, nat_cmp-IsAntisymmetric}
use Rattle.std.specs.Ordering.{nat_cmp}
use Rattle.indexmap.specs.IndexMap as index
use Rattle.cat_model.specs.declared.key.Key.{Key}
use Rattle.cat_model.specs.Keys.{key_eq}
use Rattle.cat_model.proofs.MapsSeen.{got_seen, taken_seen}
use Rattle.eng_tables.specs.Tables.{Rows, row_at, AreNames}
use Rattle.eng_tables.proofs.Naming.{row_seen, named_remove, remove_absent}
use Rattle.eng_tables.proofs.table.EngTable.remove.Goals as goal

pub invariant_of-self : goal.invariant_of-self
invariant_of-self g c =
    let before = c.self.inside.rows.entries in
    let rows : Rows g.row.R.Denot = from_entries before in
    let oid = c.args.oid in
    let had = ap (option_map (λ (e : Key × g.row.R.Denot). e.0)) (got_seen nat_cmp_total nat_cmp-IsAntisymmetric before oid ∙ sym c.in-Some.ensures.value) in
    subst (λ (t : Rows g.row.R.Denot). AreNames (index.get key_eq c.swap_remove.new.self) t) (sym (taken_seen nat_cmp_total nat_cmp-IsAntisymmetric before c.remove.new.self.entries oid c.remove.ensures.updates.0))
    (named_remove (index.get key_eq c.self.inside.oids) (index.get key_eq c.swap_remove.new.self) rows oid c.in-Some.key c.swap_remove.ensures.updates.0 had c.self.invariant)

pub returns-in-Some-clause-old : goal.returns-in-Some-clause-old
returns-in-Some-clause-old g c = row_seen c.self.inside.rows.entries c.args.oid (Some (c.in-Some.key, c.in-Some.row)) c.in-Some.ensures.value ∙ ap (λ (t : Rows g.row.R.Denot). row_at t c.args.oid) c.self.view_is

pub returns-in-Some-clause-new : goal.returns-in-Some-clause-new
returns-in-Some-clause-new g c =
    taken_seen nat_cmp_total nat_cmp-IsAntisymmetric c.self.inside.rows.entries c.remove.new.self.entries c.args.oid c.remove.ensures.updates.0
    ∙ ap (λ (t : Rows g.row.R.Denot). remove t c.args.oid) c.self.view_is

pub returns-in-None-clause-old : goal.returns-in-None-clause-old
returns-in-None-clause-old g c = row_seen c.self.inside.rows.entries c.args.oid None c.in-None.ensures.value ∙ ap (λ (t : Rows g.row.R.Denot). row_at t c.args.oid) c.self.view_is

pub returns-in-None-clause-new : goal.returns-in-None-clause-new
returns-in-None-clause-new g c =
    taken_seen nat_cmp_total nat_cmp-IsAntisymmetric c.self.inside.rows.entries c.remove.new.self.entries c.args.oid c.remove.ensures.updates.0
    ∙ ap (λ (t : Rows g.row.R.Denot). remove t c.args.oid) c.self.view_is
