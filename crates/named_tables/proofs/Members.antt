-- The rows of pg_auth_members: they meet the table's conditions, and stand for the memberships.
use Rattle.std.proofs.Common.{◌≡◌, ℕ, pos, true, false, not, List, [], ◌∷◌, Option, Some, unwrap_or, refl, ap, sym, subst, ◌∙◌, inl}
use Rattle.std.specs.Ordering.{nat_cmp, eq_by_cmp}
use Rattle.std.specs.FinMap.{get}
use Rattle.std.specs.List.{AllByRecursion, flat_map}
use Rattle.cat_rows.specs.declared.catalogue.Catalogue.{Catalogue}
use Rattle.cat_rows.specs.declared.roles.AuthMembersRow.{AuthMembersRow}
use Rattle.cat_model.specs.declared.key.Key.{Key}
use Rattle.cat_model.specs.declared.key.Key.TheVariants as key
use Rattle.cat_model.specs.declared.value.Value.{Value}
use Rattle.cat_model.specs.declared.value.Value.TheVariants as value
use Rattle.cat_model.specs.declared.value.Membership.{Membership}
use Rattle.cat_model.specs.Values.{Bytes, Named}
use Rattle.cat_names.specs.Lookups.{is_no_oid}
use Rattle.cat_names.specs.Naming.{Entry, member_entries}
use Rattle.plain_tables.specs.Meets.{Meets}
use Rattle.plain_tables.specs.Rules.{RowName, name_cmp, place_cmp}
use Rattle.plain_tables.specs.Roles.{are_roles, member_rules}
use Rattle.cat_sound.specs.Asked.{Asked}
use Rattle.cat_sound.specs.Texts.{Texts}
use Rattle.cat_sound.specs.Sound.{IsMet, IsSound}
use Rattle.cat_sound.proofs.Lists.{IsIn}
use Rattle.named_tables.specs.Oids.{Oids, AreOids}
use Rattle.named_tables.specs.Standing.{AreRowsOf}
use Rattle.named_tables.specs.Cluster.{NamedMember, IsMember, member_row}
use Rattle.named_tables.specs.Kinds.{of_members}
use Rattle.named_tables.proofs.Ties.{tie}
use Rattle.named_tables.proofs.Rows.{name_cmp-IsAntisymmetric, one_oid, each_row, distinct_keys, no_keys, no_marks}
use Rattle.named_tables.proofs.Entries.{AreEntries, IsHeld, rows_give}
use Rattle.named_tables.proofs.Roles.{AreRoles, named_there, is_role_met, one_role}

abbrev pub AreMembers : Named → Oids → List AuthMembersRow → Type 0
AreMembers named oids rows = AreRowsOf (IsMember named) (λ m row. row ≡ member_row oids m) rows

pos_back : (m n : ℕ) → pos m ≡ pos n → m ≡ n
pos_back m n e = cc

module _ (texts : Texts) (named : Named) (sound : IsSound texts named) (oids : Oids) (own : AreOids named oids) (cat : Catalogue) (roles : AreRoles named oids cat.pg_authid) (are : AreMembers named oids cat.pg_auth_members) where
  same_member : (t s : NamedMember) → IsMember named t → IsMember named s → t.role ≡ s.role → t.member ≡ s.member → t.grantor ≡ s.grantor → t ≡ s
  same_member t s is_t is_s one two three =
      let values : Some (value.Member t.options) ≡ Some (value.Member s.options) = sym is_t ∙ (λ i. get named (key.Member (one i) (two i) (three i))) ∙ is_s in
      let options : t.options ≡ s.options = cc in
      λ i. record { role = one i; member = two i; grantor = three i; options = options i }

  member_at : (a b c : Bytes) (v : Value) → get named (key.Member a b c) ≡ Some v → (m : Membership) × (v ≡ value.Member m)
  member_at a b c (value.Member m) is = (m, refl)
  member_at a b c v is = elim (sound.each (key.Member a b c) v is).own [ ]

  -- the three are roles
  record Three (t : NamedMember) : Type 0 where
    role : IsMet named (key.Role t.role, Asked.there)
    member : IsMet named (key.Role t.member, Asked.there)
    grantor : IsMet named (key.Role t.grantor, Asked.there)

  three : (t : NamedMember) → IsMember named t → Three t
  three t is = let others = (sound.each (key.Member t.role t.member t.grantor) (value.Member t.options) is).others in record { role = others.0; member = others.1.0; grantor = others.1.1.0 }

  same_key : (t s : NamedMember) (a b : AuthMembersRow) (k l : ℕ) → IsMember named t → IsMember named s → a ≡ member_row oids t → b ≡ member_row oids s → Some a.oid ≡ Some k → Some b.oid ≡ Some l → eq_by_cmp nat_cmp l k ≡ true → t ≡ s
  same_key t s a b k l is_t is_s at_a at_b is_k is_l ties =
      let equal : oids (key.Member t.role t.member t.grantor) ≡ oids (key.Member s.role s.member s.grantor) = ap (λ (r : AuthMembersRow). r.oid) (sym at_a) ∙ one_oid a.oid b.oid k l is_k is_l ties ∙ ap (λ (r : AuthMembersRow). r.oid) at_b in
      let keys : key.Member t.role t.member t.grantor ≡ key.Member s.role s.member s.grantor = own.apart (key.Member t.role t.member t.grantor) (key.Member s.role s.member s.grantor) (value.Member t.options) (value.Member s.options) is_t is_s refl refl refl equal in
      same_member t s is_t is_s (cc) (cc) (cc)

  same_name : (t s : NamedMember) (a b : AuthMembersRow) (k l : RowName) → IsMember named t → IsMember named s → a ≡ member_row oids t → b ≡ member_row oids s → Some (a.roleid, a.member, pos a.grantor, []) ≡ Some k → Some (b.roleid, b.member, pos b.grantor, []) ≡ Some l → eq_by_cmp name_cmp l k ≡ true → t ≡ s
  same_name t s a b k l is_t is_s at_a at_b is_k is_l ties =
      let names : l ≡ k = tie name_cmp-IsAntisymmetric l k ties in
      let first : (a.roleid, a.member, pos a.grantor, []) ≡ k = ap (λ (o : Option RowName). unwrap_or o k) is_k in
      let second : (b.roleid, b.member, pos b.grantor, []) ≡ l = ap (λ (o : Option RowName). unwrap_or o l) is_l in
      let all = first ∙ sym names ∙ sym second in
      let of_t = three t is_t in
      let of_s = three s is_s in
      same_member t s is_t is_s
      (one_role texts named sound oids own cat.pg_authid roles t.role s.role of_t.role of_s.role (ap (λ (r : AuthMembersRow). r.roleid) (sym at_a) ∙ ap (λ (n : RowName). n.0) all ∙ ap (λ (r : AuthMembersRow). r.roleid) at_b))
      (one_role texts named sound oids own cat.pg_authid roles t.member s.member of_t.member of_s.member (ap (λ (r : AuthMembersRow). r.member) (sym at_a) ∙ ap (λ (n : RowName). n.1) all ∙ ap (λ (r : AuthMembersRow). r.member) at_b))
      (one_role texts named sound oids own cat.pg_authid roles t.grantor s.grantor of_t.grantor of_s.grantor (ap (λ (r : AuthMembersRow). r.grantor) (sym at_a) ∙ pos_back a.grantor b.grantor (ap (λ (n : RowName). n.2) all) ∙ ap (λ (r : AuthMembersRow). r.grantor) at_b))

  all_roles : (t : NamedMember) → IsMember named t → are_roles cat (member_row oids t) ≡ true
  all_roles t is =
      let of_t = three t is in
      rw (
        is_role_met texts named sound oids own cat.pg_authid roles t.role of_t.role,
        is_role_met texts named sound oids own cat.pg_authid roles t.member of_t.member,
        is_role_met texts named sound oids own cat.pg_authid roles t.grantor of_t.grantor,
      ) refl

  pub members_meet : Meets member_rules cat cat.pg_auth_members
  members_meet = record {
    oids = distinct_keys (IsMember named) (λ m row. row ≡ member_row oids m) cat.pg_auth_members are nat_cmp (λ r. Some r.oid) same_key;
    names = distinct_keys (IsMember named) (λ m row. row ≡ member_row oids m) cat.pg_auth_members are name_cmp (λ r. Some (r.roleid, r.member, pos r.grantor, [])) same_name;
    places = no_keys place_cmp cat.pg_auth_members;
    marks = no_marks cat.pg_auth_members;
    objects = each_row (IsMember named) (λ m row. row ≡ member_row oids m) cat.pg_auth_members are (λ row. is_no_oid row.oid ≡ false) (λ t row is at. ap (λ (r : AuthMembersRow). is_no_oid r.oid) at ∙ own.some (key.Member t.role t.member t.grantor) (value.Member t.options) is refl);
    there = each_row (IsMember named) (λ m row. row ≡ member_row oids m) cat.pg_auth_members are (λ row. not (are_roles cat row) ≡ false) (λ t row is at. ap (λ (r : AuthMembersRow). not (are_roles cat r)) at ∙ ap not (all_roles t is));
    texts = λ i row at. refl;
    inside = λ i row at. refl;
    needed = refl;
  }

  -- ---- by names

  gives : (t : NamedMember) → IsMember named t → member_entries cat.pg_authid (member_row oids t) ≡ (key.Member t.role t.member t.grantor, value.Member t.options) ∷ []
  gives t is =
      let of_t = three t is in
      rw (
        named_there texts named sound oids own cat.pg_authid roles t.role of_t.role,
        named_there texts named sound oids own cat.pg_authid roles t.member of_t.member,
        named_there texts named sound oids own cat.pg_authid roles t.grantor of_t.grantor,
      ) refl

  members_held : (t : NamedMember) (row : AuthMembersRow) → IsMember named t → row ≡ member_row oids t → AllByRecursion (IsHeld named of_members) (member_entries cat.pg_authid row)
  members_held t row is at = subst (λ (es : List Entry). AllByRecursion (IsHeld named of_members) es) (sym (ap (member_entries cat.pg_authid) at ∙ gives t is)) ((is, refl), tt)

  member_covers : (k : Key) (v : Value) → get named k ≡ Some v → of_members k ≡ true → (t : NamedMember) × IsMember named t × ((row : AuthMembersRow) → row ≡ member_row oids t → IsIn (k, v) (member_entries cat.pg_authid row))
  member_covers (key.Member a b c) v is kind =
      let found = member_at a b c v is in
      let there : get named (key.Member a b c) ≡ Some (value.Member found.0) = is ∙ ap Some found.1 in (
        record { role = a; member = b; grantor = c; options = found.0 },
        there,
        λ row at. subst (IsIn (key.Member a b c, v)) (sym (ap (member_entries cat.pg_authid) at ∙ gives (record { role = a; member = b; grantor = c; options = found.0 }) there)) (inl (λ i. (key.Member a b c, sym found.1 i))),
      )
  member_covers k v is kind = cc

  pub members_stand : AreEntries named of_members (flat_map (member_entries cat.pg_authid) cat.pg_auth_members)
  members_stand = rows_give (IsMember named) (λ m row. row ≡ member_row oids m) cat.pg_auth_members are named of_members (member_entries cat.pg_authid) members_held member_covers
