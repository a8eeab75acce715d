use Rattle.std.proofs.Common.{◌≡◌, Option, Some, None, option_map, List, ℕ, sym, ap, subst, ◌∙◌, refl}
use Rattle.std.specs.Cmp.{nat_cmp_total}
use Rattle.std.specs.FinMap.{from_entries, insert, get, nat_cmp-IsAntisymmetric}
use Rattle.std.specs.Map.{lookup}
use Rattle.std.specs.Ordering.{nat_cmp, eq_by_cmp}
use Rattle.indexmap.specs.IndexMap as index
use Rattle.cat_model.specs.declared.key.Key.{Key}
use Rattle.cat_model.specs.Keys.{key_eq}
use Rattle.cat_model.proofs.MapsSeen.{got_seen, set_seen}
use Rattle.eng_tables.specs.Tables.{Rows, row_at, AreNames, with_row, replaced}
use Rattle.eng_tables.proofs.Naming.{row_seen, named_replace}
use Rattle.eng_tables.proofs.table.EngTable.replace.Goals as goal

pub invariant_of-self : goal.invariant_of-self
invariant_of-self g c = by (lookup (eq_by_cmp nat_cmp c.args.oid) c.self.inside.rows.entries) refl
  where
    by : (o : Option (Key × g.row.R.Denot)) → lookup (eq_by_cmp nat_cmp c.args.oid) c.self.inside.rows.entries ≡ o → AreNames (index.get key_eq c.self.inside.oids) (from_entries {R = nat_cmp} c.replace_in.new.rows.entries)
    by (Some e) is =
        subst (λ (t : Rows g.row.R.Denot). AreNames (index.get key_eq c.self.inside.oids) t) (sym (set_seen nat_cmp_total nat_cmp-IsAntisymmetric c.self.inside.rows.entries c.replace_in.new.rows.entries c.args.oid (e.0, c.args.row) (c.replace_in.ensures.there e is).0))
        (named_replace (index.get key_eq c.self.inside.oids) (from_entries c.self.inside.rows.entries) c.args.oid e.0 c.args.row (ap (option_map (λ (e : Key × g.row.R.Denot). e.0)) (got_seen nat_cmp_total nat_cmp-IsAntisymmetric c.self.inside.rows.entries c.args.oid ∙ is)) c.self.invariant)
    by None is =
        subst (λ (es : List (ℕ × (Key × g.row.R.Denot))). AreNames (index.get key_eq c.self.inside.oids) (from_entries {R = nat_cmp} es)) (sym (c.replace_in.ensures.none is)) c.self.invariant

pub returns-clause-old : goal.returns-clause-old
returns-clause-old g c =
    c.replace_in.ensures.old
    ∙ row_seen c.self.inside.rows.entries c.args.oid (lookup (eq_by_cmp nat_cmp c.args.oid) c.self.inside.rows.entries) refl
    ∙ ap (λ (t : Rows g.row.R.Denot). row_at t c.args.oid) c.self.view_is

pub returns-clause-new : goal.returns-clause-new
returns-clause-new g c = by (lookup (eq_by_cmp nat_cmp c.args.oid) c.self.inside.rows.entries) refl ∙ ap (λ (t : Rows g.row.R.Denot). replaced t c.args.oid c.args.row) c.self.view_is
  where
    by : (o : Option (Key × g.row.R.Denot)) → lookup (eq_by_cmp nat_cmp c.args.oid) c.self.inside.rows.entries ≡ o → from_entries {R = nat_cmp} c.replace_in.new.rows.entries ≡ replaced (from_entries {R = nat_cmp} c.self.inside.rows.entries) c.args.oid c.args.row
    by (Some e) is =
        set_seen nat_cmp_total nat_cmp-IsAntisymmetric c.self.inside.rows.entries c.replace_in.new.rows.entries c.args.oid (e.0, c.args.row) (c.replace_in.ensures.there e is).0
        ∙ sym (ap (with_row (from_entries {R = nat_cmp} c.self.inside.rows.entries) c.args.oid c.args.row) (got_seen nat_cmp_total nat_cmp-IsAntisymmetric c.self.inside.rows.entries c.args.oid ∙ is))
    by None is =
        ap (λ (es : List (ℕ × (Key × g.row.R.Denot))). from_entries {R = nat_cmp} es) (c.replace_in.ensures.none is)
        ∙ sym (ap (with_row (from_entries {R = nat_cmp} c.self.inside.rows.entries) c.args.oid c.args.row) (got_seen nat_cmp_total nat_cmp-IsAntisymmetric c.self.inside.rows.entries c.args.oid ∙ is))
