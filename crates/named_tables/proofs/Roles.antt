-- The rows of pg_authid: they meet the table's conditions, they stand for the roles, and each oid leads to its role.
use Rattle.std.proofs.Common.{◌≡◌, ◌⊎◌, ℕ, pos, Bool, true, false, true≢false, cond, List, [], ◌∷◌, Some, refl, ap, sym, subst, ◌∙◌, inl, inr, codes}
use Rattle.std.specs.Ordering.{nat_cmp, is_eq, eq_by_cmp}
use Rattle.std.specs.Cmp.{nat_cmp_total, tied_itself}
use Rattle.std.specs.Cmp.Lexicographic.{nat_list_cmp_total}
use Rattle.std.specs.FinMap.{get, nat_cmp-IsAntisymmetric}
use Rattle.std.specs.List.{AllByRecursion, flat_map}
use Rattle.cat_rows.specs.declared.catalogue.Catalogue.{Catalogue}
use Rattle.cat_rows.specs.declared.roles.AuthidRow.{AuthidRow}
use Rattle.cat_model.specs.declared.key.Key.{Key}
use Rattle.cat_model.specs.declared.key.Key.TheVariants as key
use Rattle.cat_model.specs.declared.value.Value.{Value}
use Rattle.cat_model.specs.declared.value.Value.TheVariants as value
use Rattle.cat_model.specs.declared.value.Role.{Role}
use Rattle.cat_model.specs.Values.{Bytes, Named, bytes_cmp}
use Rattle.cat_model.specs.Lexemes.{same_text}
use Rattle.cat_names.specs.Lookups.{same_oid, role_name, is_role, is_role_name, is_no_oid, boot_oid}
use Rattle.cat_names.specs.Naming.{role_entries}
use Rattle.plain_tables.specs.Meets.{Meets}
use Rattle.plain_tables.specs.Rules.{RowName, name_cmp, place_cmp}
use Rattle.plain_tables.specs.Roles.{role_rules}
use Rattle.cat_sound.specs.Texts.{Texts}
use Rattle.cat_sound.specs.Asked.{Asked}
use Rattle.cat_sound.specs.Sound.{IsMet, IsSound}
use Rattle.cat_sound.proofs.Changes.{value_met}
use Rattle.cat_sound.proofs.Lists.{IsIn}
use Rattle.named_tables.specs.Oids.{Oids, AreOids, IsStarted}
use Rattle.named_tables.specs.Standing.{AreRowsOf}
use Rattle.named_tables.specs.Cluster.{NamedRole, IsRole, role_row}
use Rattle.named_tables.specs.Kinds.{of_roles}
use Rattle.named_tables.proofs.Ties.{tie}
use Rattle.named_tables.proofs.Rows.{one_name, one_oid, among_in, in_place, has_its, each_row, distinct_keys, no_keys, no_marks}
use Rattle.named_tables.proofs.Entries.{AreEntries, IsHeld, rows_give}

abbrev pub AreRoles : Named → Oids → List AuthidRow → Type 0
AreRoles named oids rows = AreRowsOf (IsRole named) (λ r row. row ≡ role_row oids r) rows

has_tie : (a b : ℕ) → a ≡ b → same_oid a b ≡ true
has_tie a b same = ap (λ (n : ℕ). same_oid a n) (sym same) ∙ ap is_eq (tied_itself nat_cmp_total a)

-- the name of the first role of an oid is the name of each
first_role : (roles : List AuthidRow) (oid : ℕ) (name : Bytes) → ((row : AuthidRow) → IsIn row roles → row.oid ≡ oid → row.rolname ≡ name) → (row : AuthidRow) → IsIn row roles → row.oid ≡ oid → role_name roles oid ≡ Some name
unfolding role_name
first_role [] oid name only row among is = elim among [ ]
first_role (r ∷ roles) oid name only row among is =
    by (λ later. first_role roles oid name (λ x within same. only x (inr within) same) row later is) (same_oid oid r.oid) refl among
  where
    by : (IsIn row roles → role_name roles oid ≡ Some name) → (b : Bool) → same_oid oid r.oid ≡ b → (r ≡ row) ⊎ IsIn row roles → cond b (Some r.rolname) (role_name roles oid) ≡ Some name
    by more true e found = ap Some (only r (inl refl) (sym (tie nat_cmp-IsAntisymmetric oid r.oid e)))
    by more false e (inr later) = more later
    by more false e (inl same) =
        let ties : same_oid oid r.oid ≡ true = has_tie oid r.oid (sym is ∙ ap (λ (x : AuthidRow). x.oid) (sym same)) in
        absurd (true≢false (sym ties ∙ e))

module _ (texts : Texts) (named : Named) (sound : IsSound texts named) (oids : Oids) (own : AreOids named oids) (rows : List AuthidRow) (are : AreRoles named oids rows) where
  same_role : (t s : NamedRole) → IsRole named t → IsRole named s → t.name ≡ s.name → t ≡ s
  same_role t s is_t is_s names =
      let values : Some (value.Role t.role) ≡ Some (value.Role s.role) = sym is_t ∙ ap (λ (n : Bytes). get named (key.Role n)) names ∙ is_s in
      let roles : t.role ≡ s.role = cc in
      λ i. record { name = names i; role = roles i }

  -- each oid leads to its role
  pub role_named : (name : Bytes) (role : Role) → get named (key.Role name) ≡ Some (value.Role role) → role_name rows (oids (key.Role name)) ≡ Some name
  role_named name role is =
      let at = are.each (record { name = name; role = role }) is in
      first_role rows (oids (key.Role name)) name (λ row among same. only row among same) at.0 (among_in rows at.0 at.1) (ap (λ (r : AuthidRow). r.oid) at.2)
    where
      only : (row : AuthidRow) → IsIn row rows → row.oid ≡ oids (key.Role name) → row.rolname ≡ name
      only row among same =
          let one = are.only row (in_place rows row among) in
          let keys : key.Role one.0.name ≡ key.Role name = own.apart (key.Role one.0.name) (key.Role name) (value.Role one.0.role) (value.Role role) one.1 is refl refl refl (sym (ap (λ (r : AuthidRow). r.oid) one.2) ∙ same) in
          let names : one.0.name ≡ name = cc in
          ap (λ (r : AuthidRow). r.rolname) one.2 ∙ names

  -- a role that is there has a row of its oid, and one of its name
  pub is_role_there : (name : Bytes) (role : Role) → get named (key.Role name) ≡ Some (value.Role role) → is_role rows (oids (key.Role name)) ≡ true
  is_role_there name role is =
      let at = are.each (record { name = name; role = role }) is in
      subst (λ (n : ℕ). is_role rows n ≡ true) (ap (λ (r : AuthidRow). r.oid) at.2) (has_its nat_cmp nat_cmp_total (λ (r : AuthidRow). r.oid) rows at.0 (among_in rows at.0 at.1))

  pub is_name_there : (name : Bytes) (role : Role) → get named (key.Role name) ≡ Some (value.Role role) → is_role_name rows name ≡ true
  is_name_there name role is =
      let at = are.each (record { name = name; role = role }) is in
      subst (λ (n : Bytes). is_role_name rows n ≡ true) (ap (λ (r : AuthidRow). r.rolname) at.2) (has_its bytes_cmp nat_list_cmp_total (λ (r : AuthidRow). r.rolname) rows at.0 (among_in rows at.0 at.1))

  -- what stands at the key of a role is a role
  pub role_at : (name : Bytes) (v : Value) → get named (key.Role name) ≡ Some v → (role : Role) × (v ≡ value.Role role)
  role_at name (value.Role role) is = (role, refl)
  role_at name v is = elim (sound.each (key.Role name) v is).own [ ]

  pub role_of : (name : Bytes) → IsMet named (key.Role name, Asked.there) → (role : Role) × (get named (key.Role name) ≡ Some (value.Role role))
  role_of name met =
      let found = value_met named (key.Role name, Asked.there) met in
      let role = role_at name found.0 found.1 in
      (role.0, found.1 ∙ ap Some role.1)

  -- the same where the role is known to be there
  pub named_there : (name : Bytes) → IsMet named (key.Role name, Asked.there) → role_name rows (oids (key.Role name)) ≡ Some name
  named_there name met = let role = role_of name met in role_named name role.0 role.1

  pub is_role_met : (name : Bytes) → IsMet named (key.Role name, Asked.there) → is_role rows (oids (key.Role name)) ≡ true
  is_role_met name met = let role = role_of name met in is_role_there name role.0 role.1

  pub is_name_met : (name : Bytes) → IsMet named (key.Role name, Asked.there) → is_role_name rows name ≡ true
  is_name_met name met = let role = role_of name met in is_name_there name role.0 role.1

  -- roles of one oid are one
  pub one_role : (m n : Bytes) → IsMet named (key.Role m, Asked.there) → IsMet named (key.Role n, Asked.there) → oids (key.Role m) ≡ oids (key.Role n) → m ≡ n
  one_role m n met_m met_n equal =
      let first = role_of m met_m in
      let second = role_of n met_n in
      let keys : key.Role m ≡ key.Role n = own.apart (key.Role m) (key.Role n) (value.Role first.0) (value.Role second.0) first.1 second.1 refl refl refl equal in
      cc

  same_key : (t s : NamedRole) (a b : AuthidRow) (k l : ℕ) → IsRole named t → IsRole named s → a ≡ role_row oids t → b ≡ role_row oids s → Some a.oid ≡ Some k → Some b.oid ≡ Some l → eq_by_cmp nat_cmp l k ≡ true → t ≡ s
  same_key t s a b k l is_t is_s at_a at_b is_k is_l ties =
      let equal : oids (key.Role t.name) ≡ oids (key.Role s.name) = ap (λ (r : AuthidRow). r.oid) (sym at_a) ∙ one_oid a.oid b.oid k l is_k is_l ties ∙ ap (λ (r : AuthidRow). r.oid) at_b in
      let keys : key.Role t.name ≡ key.Role s.name = own.apart (key.Role t.name) (key.Role s.name) (value.Role t.role) (value.Role s.role) is_t is_s refl refl refl equal in
      same_role t s is_t is_s cc

  same_name : (t s : NamedRole) (a b : AuthidRow) (k l : RowName) → IsRole named t → IsRole named s → a ≡ role_row oids t → b ≡ role_row oids s → Some (0, 0, pos 0, a.rolname) ≡ Some k → Some (0, 0, pos 0, b.rolname) ≡ Some l → eq_by_cmp name_cmp l k ≡ true → t ≡ s
  same_name t s a b k l is_t is_s at_a at_b is_k is_l ties =
      same_role t s is_t is_s (ap (λ (r : AuthidRow). r.rolname) (sym at_a) ∙ one_name a.rolname b.rolname k l is_k is_l ties ∙ ap (λ (r : AuthidRow). r.rolname) at_b)

  not_public : (row : AuthidRow) (t : NamedRole) → IsRole named t → row ≡ role_row oids t → same_text row.rolname (codes "public") ≡ false
  not_public row t is at = ap (λ (r : AuthidRow). same_text r.rolname (codes "public")) at ∙ (sound.each (key.Role t.name) (value.Role t.role) is).own

  pub roles_meet : (current : Bytes) (cat : Catalogue) → cat.pg_authid ≡ rows → IsStarted named oids current → Meets role_rules cat rows
  roles_meet current cat table started = record {
    oids = distinct_keys (IsRole named) (λ r row. row ≡ role_row oids r) rows are nat_cmp (λ r. Some r.oid) same_key;
    names = distinct_keys (IsRole named) (λ r row. row ≡ role_row oids r) rows are name_cmp (λ r. Some (0, 0, pos 0, r.rolname)) same_name;
    places = no_keys place_cmp rows;
    marks = no_marks rows;
    objects = each_row (IsRole named) (λ r row. row ≡ role_row oids r) rows are (λ row. is_no_oid row.oid ≡ false) (λ t row is at. ap (λ (r : AuthidRow). is_no_oid r.oid) at ∙ own.some (key.Role t.name) (value.Role t.role) is refl);
    there = λ i row at. refl;
    texts = each_row (IsRole named) (λ r row. row ≡ role_row oids r) rows are (λ row. same_text row.rolname (codes "public") ≡ false) (λ t row is at. not_public row t is at);
    inside = λ i row at. refl;
    needed = ap (λ (rs : List AuthidRow). is_role rs boot_oid) table ∙ subst (λ (n : ℕ). is_role rows n ≡ true) started.boot_oid (is_role_there started.boot started.role started.boot_there);
  }

  -- ---- by names

  roles_held : (t : NamedRole) (row : AuthidRow) → IsRole named t → row ≡ role_row oids t → AllByRecursion (IsHeld named of_roles) (role_entries row)
  roles_held t row is at = subst (λ (r : AuthidRow). AllByRecursion (IsHeld named of_roles) (role_entries r)) (sym at) ((is, refl), tt)

  role_covers : (k : Key) (v : Value) → get named k ≡ Some v → of_roles k ≡ true → (t : NamedRole) × IsRole named t × ((row : AuthidRow) → row ≡ role_row oids t → IsIn (k, v) (role_entries row))
  role_covers (key.Role name) v is kind =
      let found = role_at name v is in (
        record { name = name; role = found.0 },
        is ∙ ap Some found.1,
        λ row at. subst (λ (r : AuthidRow). IsIn (key.Role name, v) (role_entries r)) (sym at) (inl (λ i. (key.Role name, sym found.1 i))),
      )
  role_covers k v is kind = cc

  pub roles_stand : AreEntries named of_roles (flat_map role_entries rows)
  roles_stand = rows_give (IsRole named) (λ r row. row ≡ role_row oids r) rows are named of_roles role_entries roles_held role_covers
