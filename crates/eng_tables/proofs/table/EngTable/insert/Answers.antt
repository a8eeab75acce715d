use Rattle.std.proofs.Common.{◌≡◌, Bool, ◌||◌, Option, is_some, List, ℕ, Result, Ok, Err, OnOk, OnErr, IfErr, sym, ap, subst, ◌∙◌, refl}
use Rattle.std.proofs.lemmas.Result.{on_ok_weaker}
use Rattle.std.specs.BTreeMap as tree
use Rattle.std.specs.Cmp.{nat_cmp_total}
use Rattle.std.specs.FinMap.{from_entries, insert, get, nat_cmp-IsAntisymmetric}
use Rattle.std.specs.Map.{lookup}
use Rattle.std.specs.Ordering.{nat_cmp}
use Rattle.indexmap.specs.IndexMap as index
use Rattle.cat_model.specs.declared.key.Key.{Key}
use Rattle.cat_model.specs.Keys.{key_eq}
use Rattle.cat_model.proofs.MapsSeen.{got_seen, set_seen}
use Rattle.eng_tables.specs.declared.fault.InsertFault.{InsertFault}
use Rattle.eng_tables.specs.declared.fault.InsertFault.TheVariants.{Repeated, Memory}
use Rattle.eng_tables.specs.Tables.{Rows, IsTaken, AreNames}
use Rattle.eng_tables.proofs.Naming.{taken, not_taken, none_free, named_insert}
use Rattle.eng_tables.proofs.table.EngTable.insert.Goals as goal

-- a call that fails for want of memory tells of no row
not_repeated : {A B : Type 0} (r : Result A InsertFault) → IfErr r (λ fault. fault ≡ Memory) → r ≡ Err Repeated → B
not_repeated (Ok x) h e = absurd cc
not_repeated (Err fault) h e = absurd cc

pub returns-then-is_taken-clause-repeated : goal.returns-then-is_taken-clause-repeated
returns-then-is_taken-clause-repeated g c =
    let before = c.self.inside.rows.entries in
    let names = index.get key_eq c.self.inside.oids in
    let is = ap (λ (o : Option (Key × g.row.R.Denot)). is_some o || is_some (names c.args.key)) (got_seen nat_cmp_total nat_cmp-IsAntisymmetric before c.args.oid) ∙ sym c.is_taken.ensures ∙ c.if-is_taken.true in (
      λ _. subst (λ (t : Rows g.row.R.Denot). IsTaken t c.args.oid c.args.key) c.self.view_is (taken names (from_entries before) c.args.oid c.args.key c.self.invariant is),
      λ _. refl,
    )

-- what both answers lead to
either : {A E S : Type 0} (r : Result A E) (P Q : Type 0) → OnOk r P → OnErr r Q → (P → S) → (Q → S) → S
either (Ok x) P Q p q f h = f p
either (Err e) P Q p q f h = h q

both : {A E : Type 0} (r : Result A E) (P Q : Type 0) → OnOk r P → OnOk r Q → OnOk r (P × Q)
both (Ok x) P Q p q = (p, q)
both (Err e) P Q p q = tt

pub invariant_of-self : goal.invariant_of-self
invariant_of-self g c =
    let before = c.self.inside.rows.entries in
    let names = index.get key_eq c.self.inside.oids in
    let free = none_free (tree.get nat_cmp c.self.inside.rows c.args.oid) (names c.args.key) (sym c.is_taken.ensures ∙ c.if-is_taken.false) in
    either c.add.result _ _ (both c.add.result _ _ c.add.ensures.rows c.add.ensures.oids) c.add.ensures.err
    (λ updates. subst (λ (t : Rows g.row.R.Denot). AreNames (index.get key_eq c.add.new.oids) t) (sym (set_seen nat_cmp_total nat_cmp-IsAntisymmetric before c.add.new.rows.entries c.args.oid (c.args.key, c.args.row) updates.0.0))
    (named_insert names (index.get key_eq c.add.new.oids) (from_entries before) c.args.oid c.args.key c.args.row updates.1.0 (got_seen nat_cmp_total nat_cmp-IsAntisymmetric before c.args.oid ∙ free.0) free.1 c.self.invariant))
    (λ same. subst (λ (es : List (ℕ × (Key × g.row.R.Denot))). AreNames (index.get key_eq c.add.new.oids) (from_entries {R = nat_cmp} es)) (sym same.0)
    (subst (λ (os : List (Key × ℕ)). AreNames (λ k. lookup (key_eq k) os) (from_entries {R = nat_cmp} before)) (sym same.1) c.self.invariant))

pub returns-clause-ok : goal.returns-clause-ok
returns-clause-ok g c =
    on_ok_weaker c.add.result
    (λ updates. set_seen nat_cmp_total nat_cmp-IsAntisymmetric c.self.inside.rows.entries c.add.new.rows.entries c.args.oid (c.args.key, c.args.row) updates.0 ∙ ap (λ (t : Rows g.row.R.Denot). insert t c.args.oid (c.args.key, c.args.row)) c.self.view_is)
    c.add.ensures.rows

pub returns-clause-repeated : goal.returns-clause-repeated
returns-clause-repeated g c =
    let before = c.self.inside.rows.entries in
    let names = index.get key_eq c.self.inside.oids in
    let free = none_free (tree.get nat_cmp c.self.inside.rows c.args.oid) (names c.args.key) (sym c.is_taken.ensures ∙ c.if-is_taken.false) in (
      λ e. not_repeated c.add.result c.add.ensures.memory e,
      λ is. not_taken names (from_entries before) c.args.oid c.args.key c.self.invariant (got_seen nat_cmp_total nat_cmp-IsAntisymmetric before c.args.oid ∙ free.0) free.1 (subst (λ (t : Rows g.row.R.Denot). IsTaken t c.args.oid c.args.key) (sym c.self.view_is) is),
    )
