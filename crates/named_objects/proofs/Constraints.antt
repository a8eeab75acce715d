-- The rows of pg_constraint stand for the constraints of tables; the checks of domains give nothing by themselves.
use Rattle.std.proofs.Common.{◌≡◌, Bool, true, false, true≢false, cond, Option, Some, None, [], ◌∷◌, List, option_and_then, refl, ap, sym, subst, ◌∙◌, inl, inr}
use Rattle.std.specs.FinMap.{get, nat_cmp-IsAntisymmetric}
use Rattle.std.specs.List.{AllByRecursion, flat_map, find}
use Rattle.cat_rows.specs.declared.catalogue.Catalogue.{Catalogue}
use Rattle.cat_rows.specs.declared.constraints.ConstraintRow.{ConstraintRow}
use Rattle.cat_rows.specs.declared.relations.ClassRow.{ClassRow}
use Rattle.cat_model.specs.declared.object.QName.{QName}
use Rattle.cat_model.specs.declared.key.Key.{Key}
use Rattle.cat_model.specs.declared.key.Key.TheVariants as key
use Rattle.cat_model.specs.declared.value.Value.{Value}
use Rattle.cat_model.specs.declared.value.Value.TheVariants as value
use Rattle.cat_model.specs.declared.value.Constraint.{Constraint}
use Rattle.cat_model.specs.Values.{Bytes, Named}
use Rattle.cat_names.specs.Lookups.{same_oid, is_no_oid}
use Rattle.cat_names.specs.Naming.{Entry}
use Rattle.cat_book.specs.Paths.{class_path, class_path_of}
use Rattle.constraint_table.specs.Said.{statement_said}
use Rattle.cat_naming.specs.Types.{under_path, with_value}
use Rattle.cat_naming.specs.Constraints.{constraint_value, constraint_entries}
use Rattle.cat_sound.specs.Asked.{Asked}
use Rattle.cat_sound.specs.Texts.{Texts}
use Rattle.cat_sound.specs.Sound.{IsSound}
use Rattle.cat_sound.proofs.Changes.{value_met}
use Rattle.cat_sound.proofs.Lists.{IsIn}
use Rattle.named_tables.specs.Oids.{AreOids}
use Rattle.named_tables.specs.Standing.{AreRowsOf}
use Rattle.named_tables.proofs.Ties.{tie}
use Rattle.named_tables.proofs.Rows.{in_place}
use Rattle.named_tables.proofs.Entries.{AreEntries, IsHeld, rows_give}
use Rattle.named_objects.specs.Oids.{ObjectOids, AreCheckOids}
use Rattle.named_objects.specs.Constraints.{NamedConstraint, IsConstraint, IsConstraintRow, NamedCheck, IsCheckRow, Constrained, of_table, of_domain, IsConstrained, IsConstrainedRow}
use Rattle.named_objects.specs.Kinds.{of_constraints}
use Rattle.named_objects.proofs.Found.{find_row}
use Rattle.named_objects.proofs.Lookups.{AreLedTo, has_tie, class_path_found}

pub none_found : {R : Type 0} (test : R → Bool) (rows : List R) → ((r : R) → IsIn r rows → test r ≡ false) → find test rows ≡ None
none_found test [] none = refl
none_found {R = R} test (x ∷ rows) none = ap (λ (b : Bool). cond b (Some x) (find test rows)) (none x (inl refl)) ∙ none_found test rows (λ r among. none r (inr among))

module _ (texts : Texts) (named : Named) (sound : IsSound texts named) (oids : ObjectOids) (own : AreOids named oids.of) (cat : Catalogue) (led : AreLedTo named oids.of cat) (are : AreRowsOf (IsConstrained named) (IsConstrainedRow oids) cat.pg_constraint) where
  -- no relation has the oid 0
  no_class : class_path_of cat 0 ≡ None
  no_class =
      ap (option_and_then (class_path cat.pg_namespace)) (none_found (λ (r : ClassRow). same_oid 0 r.oid) cat.pg_class (λ r among. by r among (same_oid 0 r.oid) refl))
    where
      by : (r : ClassRow) → IsIn r cat.pg_class → (b : Bool) → same_oid 0 r.oid ≡ b → b ≡ false
      by r among false e = refl
      by r among true e =
          let one = led.relations.only r (in_place cat.pg_class r among) in
          let zero : 0 ≡ oids.of (key.Rel one.0.path) = tie nat_cmp-IsAntisymmetric 0 r.oid e ∙ one.2.oid in
          let no : is_no_oid (oids.of (key.Rel one.0.path)) ≡ false = own.some (key.Rel one.0.path) one.0.relation one.1 refl in
          absurd (true≢false (ap is_no_oid zero ∙ no))

  path : (t : NamedConstraint) → IsConstraint named t → class_path_of cat (oids.of (key.Rel t.table)) ≡ Some t.table
  path t is =
      let found = value_met named (key.Rel t.table, Asked.has_columns t.constraint.columns) (sound.each (key.Con t.table t.name) (value.Constraint t.constraint) is).others.0 in
      class_path_found texts named sound oids.of own cat led t.table found.0 found.1

  gives : (t : NamedConstraint) (row : ConstraintRow) → IsConstraint named t → IsConstraintRow oids.of t row → (key.Con t.table t.name, value.Constraint t.constraint) ∷ [] ≡ constraint_entries cat row
  gives t row is at =
      sym (
      ap (λ (o : Option QName). under_path o (λ table. with_value (option_and_then constraint_value (statement_said row.condef)) (λ v. (key.Con table row.conname, v) ∷ []))) (ap (class_path_of cat) at.table ∙ path t is)
      ∙ ap (λ (o : Option Value). with_value o (λ v. (key.Con t.table row.conname, v) ∷ [])) at.said
      ∙ ap (λ (n : Bytes). (key.Con t.table n, value.Constraint t.constraint) ∷ []) at.name)

  check_gives : (t : NamedCheck) (row : ConstraintRow) → IsCheckRow oids t row → [] ≡ constraint_entries cat row
  check_gives t row at =
      sym (ap (λ (o : Option QName). under_path o (λ table. with_value (option_and_then constraint_value (statement_said row.condef)) (λ v. (key.Con table row.conname, v) ∷ []))) (ap (class_path_of cat) at.no_table ∙ no_class))

  constraints_held : (t : Constrained) (row : ConstraintRow) → IsConstrained named t → IsConstrainedRow oids t row → AllByRecursion (IsHeld named of_constraints) (constraint_entries cat row)
  constraints_held (of_table t) row is at = subst (λ (es : List Entry). AllByRecursion (IsHeld named of_constraints) es) (gives t row is at) ((is, refl), tt)
  constraints_held (of_domain t) row is at = subst (λ (es : List Entry). AllByRecursion (IsHeld named of_constraints) es) (check_gives t row at) tt

  constraint_at : (q : QName) (name : Bytes) (v : Value) → get named (key.Con q name) ≡ Some v → (c : Constraint) × (v ≡ value.Constraint c)
  constraint_at q name (value.Constraint c) is = (c, refl)
  constraint_at q name v is = elim (sound.each (key.Con q name) v is).own [ ]

  constraint_covers : (k : Key) (v : Value) → get named k ≡ Some v → of_constraints k ≡ true → (t : Constrained) × IsConstrained named t × ((row : ConstraintRow) → IsConstrainedRow oids t row → IsIn (k, v) (constraint_entries cat row))
  constraint_covers (key.Con q name) v is kind =
      let found = constraint_at q name v is in
      let there : get named (key.Con q name) ≡ Some (value.Constraint found.0) = is ∙ ap Some found.1 in (
        of_table (record { table = q; name = name; constraint = found.0 }),
        there,
        λ row at. subst (IsIn (key.Con q name, v)) (gives (record { table = q; name = name; constraint = found.0 }) row there at) (inl (λ i. (key.Con q name, sym found.1 i))),
      )
  constraint_covers k v is kind = cc

  pub constraints_stand : AreEntries named of_constraints (flat_map (constraint_entries cat) cat.pg_constraint)
  constraints_stand = rows_give (IsConstrained named) (IsConstrainedRow oids) cat.pg_constraint are named of_constraints (constraint_entries cat) constraints_held constraint_covers

  -- ---- by oids

  pub same_constraint : (t s : NamedConstraint) → IsConstraint named t → IsConstraint named s → key.Con t.table t.name ≡ key.Con s.table s.name → t ≡ s
  same_constraint t s is_t is_s keys =
      let tables : t.table ≡ s.table = cc in
      let names : t.name ≡ s.name = cc in
      let values : Some (value.Constraint t.constraint) ≡ Some (value.Constraint s.constraint) = sym is_t ∙ ap (get named) keys ∙ is_s in
      let constraints : t.constraint ≡ s.constraint = cc in
      λ i. record { table = tables i; name = names i; constraint = constraints i }

  pub record FoundConstraint (t : NamedConstraint) : Type 0 where
    pub row : ConstraintRow
    pub found : find (λ c. same_oid (oids.of (key.Con t.table t.name)) c.oid) cat.pg_constraint ≡ Some row
    pub says : IsConstraintRow oids.of t row

  pub constraint_found : AreCheckOids named oids → (t : NamedConstraint) → IsConstraint named t → FoundConstraint t
  constraint_found checks t is =
      let at = are.each (of_table t) is in
      record {
        row = at.0;
        found = find_row (IsConstrained named) (IsConstrainedRow oids) cat.pg_constraint are (λ c. same_oid (oids.of (key.Con t.table t.name)) c.oid) (of_table t) at.0 at.1 at.2 (has_tie (oids.of (key.Con t.table t.name)) at.0.oid (sym at.2.oid)) only;
        says = at.2;
      }
    where
      only : (s : Constrained) (r : ConstraintRow) → IsConstrained named s → IsConstrainedRow oids s r → same_oid (oids.of (key.Con t.table t.name)) r.oid ≡ true → s ≡ of_table t
      only (of_table s) r is_s says ties =
          let equal : oids.of (key.Con s.table s.name) ≡ oids.of (key.Con t.table t.name) = sym (tie nat_cmp-IsAntisymmetric (oids.of (key.Con t.table t.name)) r.oid ties ∙ says.oid) in
          let keys : key.Con s.table s.name ≡ key.Con t.table t.name = own.apart (key.Con s.table s.name) (key.Con t.table t.name) (value.Constraint s.constraint) (value.Constraint t.constraint) is_s is refl refl refl equal in
          ap of_table (same_constraint s t is_s is keys)
      only (of_domain s) r is_s says ties =
          absurd (checks.of_no_table s.path s.domain s.name s.text t.table t.name (value.Constraint t.constraint) is_s.there is_s.at is (sym (tie nat_cmp-IsAntisymmetric (oids.of (key.Con t.table t.name)) r.oid ties ∙ says.oid)))
