-- Relations and types of an opening have the oids of their rows, and a relation has no other.
use Rattle.std.proofs.Common.{◌≡◌, ◌⊎◌, inl, inr, ℕ, zero, suc, ◌<◌, ◌==◌, ℤ, pos, negsuc, Bool, true, false, true≢false, cond, List, [], ◌∷◌, Option, Some, None, refl, sym, ap, ◌∙◌, arith}
use Rattle.std.proofs.lemmas.Bool.Decides.{nat_tests}
use Rattle.std.proofs.lemmas.Option.{none-some}
use Rattle.std.specs.FinMap.{get, get-empty}
use Rattle.std.specs.FinSet.{contains-empty}
use Rattle.std.specs.List.{slice_get}
use Rattle.std.specs.Option.{option_map, option_and_then}
use Rattle.std.specs.Ordering.{nat_cmp, eq_by_cmp}
use Rattle.cat_rows.specs.declared.catalogue.Catalogue.{Catalogue}
use Rattle.cat_rows.specs.declared.constraints.ConstraintRow.{ConstraintRow}
use Rattle.cat_rows.specs.declared.notes.DependRow.{DependRow}
use Rattle.cat_rows.specs.declared.relations.AttrdefRow.{AttrdefRow}
use Rattle.cat_rows.specs.declared.relations.ClassRow.{ClassRow}
use Rattle.cat_rows.specs.declared.relations.RewriteRow.{RewriteRow}
use Rattle.cat_rows.specs.declared.roles.AuthidRow.{AuthidRow}
use Rattle.cat_rows.specs.declared.roles.AuthMembersRow.{AuthMembersRow}
use Rattle.cat_rows.specs.declared.roles.DatabaseRow.{DatabaseRow}
use Rattle.cat_rows.specs.declared.schemas.NamespaceRow.{NamespaceRow}
use Rattle.cat_rows.specs.declared.types.EnumRow.{EnumRow}
use Rattle.cat_rows.specs.declared.types.TypeRow.{TypeRow}
use Rattle.cat_model.specs.declared.object.QName.{QName}
use Rattle.cat_model.specs.declared.key.Key.TheVariants as key
use Rattle.cat_model.specs.Values.{Bytes}
use Rattle.cat_names.specs.Lookups.{is_no_oid, role_name}
use Rattle.cat_book.specs.Meets.{Meets}
use Rattle.cat_book.specs.Paths.{class_path, class_path_of, type_path, path_of}
use Rattle.cat_book.specs.Rules.{Rules, is_nothing}
use Rattle.cat_lookups.specs.Found.{column_name}
use Rattle.cat_sound.proofs.Lists.{IsIn}
use Rattle.object_ids.specs.Slots.{Slot, slot_cmp, object, check, label, table_of}
use Rattle.object_ids.specs.Ids.{IdsOf, Row, row_cmp, KeepIds, none, fits, added, avoiding}
use Rattle.object_ids.proofs.Apart.{at_added, tied_same, slot_cmp-IsAntisymmetric}
use Rattle.opening_ids.specs.Opening.{of_role, of_member, member_slot, of_database, of_schema, of_type, place_slot, of_label, of_relation, default_slot, of_default, of_constraint, of_body, given, all_given, depends_avoided, cluster_given, objects_given, parts_given, opening_ids}
use Rattle.opening_ids.proofs.Keeping.{IsFree, AreApartRows, all_keep, others_free, all_give, apart_pairs}
use Rattle.plain_tables.specs.Relations.{relation_rules}
use Rattle.text_tables.specs.Types.{type_rules}
use Rattle.sound_loads.specs.Formed.{IsWellFormed}
use Rattle.sound_rows.specs.Rows.{IsAmong}
use Rattle.sound_rows.proofs.Among.{each_in, in_place, place_in}
use Rattle.sound_rows.proofs.Paths.{oid_tied}
use Rattle.sound_loads.proofs.Classes.{one_class}
use Rattle.sound_loads.proofs.Types.{one_type}

same_thing : {T : Type 0} (t u : T) → Some t ≡ Some u → t ≡ u
same_thing t u e = cc

-- ---- rows of which no two are of one thing

module _ {R : Type 0} (rules : Rules Catalogue R) (cat : Catalogue) (rows : List R) (meets : Meets rules cat rows)
    (oid : R → ℕ) (of : R → Option Slot)
    (keyed : (r : R) → (rules.keys r).oid ≡ Some (oid r))
    (one : (a b : R) (s : Slot) → IsAmong a rows → IsAmong b rows → of a ≡ Some s → of b ≡ Some s → a ≡ b) where
  differ : (i j : ℕ) (r q : R) → i < j → slice_get rows i ≡ Some r → slice_get rows j ≡ Some q → oid q ≡ oid r → ⊥
  differ i j r q less at_i at_j same =
      true≢false (sym (oid_tied (oid q)) ∙ ap (λ (n : ℕ). eq_by_cmp nat_cmp (oid q) n) same ∙ meets.oids i j r q (oid r) (oid q) less at_i at_j (keyed r) (keyed q))

  apart : AreApartRows oid of rows
  apart = apart_pairs oid of rows (λ i j r q less at_i at_j s t is_s is_t. (
    λ same. differ i j r q less at_i at_j (ap oid (one q r s (j, at_j) (i, at_i) (is_t ∙ ap Some same) is_s)),
    λ same. differ i j r q less at_i at_j (ap (λ (p : Row). p.1) same),
  ))

  nonzero : (r : R) → IsIn r rows → oid r ≡ 0 → ⊥
  nonzero r among is_zero =
      true≢false (sym (ap is_nothing (keyed r) ∙ ap is_no_oid is_zero) ∙ each_in (λ (q : R). is_nothing (rules.keys q).oid ≡ false) rows meets.objects r (place_in rows r among))

  all_have : (ids : IdsOf) → ((r : R) → IsIn r rows → (s : Slot) → of r ≡ Some s → IsFree ids s (oid r)) → (r : R) → IsAmong r rows → (s : Slot) → of r ≡ Some s → get (all_given oid of ids rows).ids s ≡ Some (oid r)
  all_have ids free r among s is = all_give oid of rows ids apart nonzero free r (in_place rows r among) s is

-- ---- which rows gave an oid

module _ {R : Type 0} (oid : R → ℕ) (of : R → Option Slot) (s : Slot) (n : ℕ) where
  from_given : (ids : IdsOf) (o : Option Slot) (m : ℕ) → get (given ids m o).ids s ≡ Some n → (get ids.ids s ≡ Some n) ⊎ ((o ≡ Some s) × (m ≡ n))
  from_given ids None m at = inl at
  from_given ids (Some t) m at = by (fits (avoiding ids m) t m) at
    where
      tie : get (added (avoiding ids m) t m).ids s ≡ Some n → (b : Bool) → eq_by_cmp slot_cmp s t ≡ b → (get ids.ids s ≡ Some n) ⊎ ((Some t ≡ Some s) × (m ≡ n))
      tie here true same = inr (ap Some (sym (tied_same slot_cmp-IsAntisymmetric s t same)), same_thing m n (sym (at_added (avoiding ids m) t m s true same) ∙ here))
      tie here false other = inl (sym (at_added (avoiding ids m) t m s false other) ∙ here)

      by : (b : Bool) → get (cond b (added (avoiding ids m) t m) (avoiding ids m)).ids s ≡ Some n → (get ids.ids s ≡ Some n) ⊎ ((Some t ≡ Some s) × (m ≡ n))
      by false here = inl here
      by true here = tie here (eq_by_cmp slot_cmp s t) refl

  all_from : (rows : List R) (ids : IdsOf) → get (all_given oid of ids rows).ids s ≡ Some n → (get ids.ids s ≡ Some n) ⊎ ((r : R) × IsIn r rows × (of r ≡ Some s) × (oid r ≡ n))
  all_from [] ids at = inl at
  all_from (r ∷ rows) ids at = by (all_from rows (given ids (oid r) (of r)) at)
    where
      first : (get ids.ids s ≡ Some n) ⊎ ((of r ≡ Some s) × (oid r ≡ n)) → (get ids.ids s ≡ Some n) ⊎ ((q : R) × IsIn q (r ∷ rows) × (of q ≡ Some s) × (oid q ≡ n))
      first (inl before) = inl before
      first (inr here) = inr (r, inl refl, here.0, here.1)

      by : (get (given ids (oid r) (of r)).ids s ≡ Some n) ⊎ ((q : R) × IsIn q rows × (of q ≡ Some s) × (oid q ≡ n)) → (get ids.ids s ≡ Some n) ⊎ ((q : R) × IsIn q (r ∷ rows) × (of q ≡ Some s) × (oid q ≡ n))
      by (inl before) = first (from_given ids (of r) (oid r) before)
      by (inr later) = inr (later.0, inr later.1, later.2, later.3)

  -- rows of another table gave it none
  not_from : (rows : List R) (ids : IdsOf) → ((r : R) (t : Slot) → of r ≡ Some t → table_of s ≡ table_of t → ⊥) → get (all_given oid of ids rows).ids s ≡ Some n → get ids.ids s ≡ Some n
  not_from rows ids other at = by (all_from rows ids at)
    where
      by : (get ids.ids s ≡ Some n) ⊎ ((r : R) × IsIn r rows × (of r ≡ Some s) × (oid r ≡ n)) → get ids.ids s ≡ Some n
      by (inl before) = before
      by (inr from) = absurd (other from.0 s from.2 refl)

-- ---- the table of what a row is of

mapped_table : {A : Type 0} (f : A → Slot) (n : ℕ) → ((a : A) → table_of (f a) ≡ n) → (o : Option A) (t : Slot) → option_map f o ≡ Some t → table_of t ≡ n
mapped_table f n all None t is = absurd cc
mapped_table f n all (Some a) t is = ap table_of (sym (same_thing (f a) t is)) ∙ all a

label_table : (q : QName) (place : ℕ) → table_of (label q place) ≡ 16
label_table q place = grind (arith, nat_tests)

place_table : (q : QName) (place : ℤ) (t : Slot) → place_slot q place ≡ Some t → table_of t ≡ 16
place_table q (pos zero) t is = absurd cc
place_table q (pos (suc n)) t is = ap table_of (sym (same_thing (label q n) t is)) ∙ label_table q n
place_table q (negsuc n) t is = absurd cc

placed_table : (place : ℤ) (o : Option QName) (t : Slot) → option_and_then (λ (q : QName). place_slot q place) o ≡ Some t → table_of t ≡ 16
placed_table place None t is = absurd cc
placed_table place (Some q) t is = place_table q place t is

member_table : (a b c : Option Bytes) (t : Slot) → member_slot a b c ≡ Some t → table_of t ≡ 1
member_table (Some a) (Some b) (Some c) t is = ap table_of (sym (same_thing (object (key.Member a b c)) t is))
member_table (Some a) (Some b) None t is = absurd cc
member_table (Some a) None c t is = absurd cc
member_table None b c t is = absurd cc

default_table : (a : Option QName) (b : Option Bytes) (t : Slot) → default_slot a b ≡ Some t → table_of t ≡ 6
default_table (Some q) (Some column) t is = ap table_of (sym (same_thing (object (key.Default q column)) t is))
default_table (Some q) None t is = absurd cc
default_table None b t is = absurd cc

module _ (cat : Catalogue) where
  of_label_table : (r : EnumRow) (t : Slot) → of_label cat r ≡ Some t → table_of t ≡ 16
  of_label_table r t is = placed_table r.enumpos (path_of cat r.enumtypid) t is

  of_type_table : (r : TypeRow) (t : Slot) → of_type cat r ≡ Some t → table_of t ≡ 3
  of_type_table r t is = mapped_table (λ (q : QName). object (key.UserType q)) 3 (λ q. refl) (type_path cat.pg_namespace r) t is

  of_relation_table : (r : ClassRow) (t : Slot) → of_relation cat r ≡ Some t → table_of t ≡ 4
  of_relation_table r t is = mapped_table (λ (q : QName). object (key.Rel q)) 4 (λ q. refl) (class_path cat.pg_namespace r) t is

  of_constraint_table : (r : ConstraintRow) (t : Slot) → of_constraint cat r ≡ Some t → table_of t ≡ 7
  of_constraint_table r t is = by (r.conrelid == 0) is
    where
      by : (b : Bool) → cond b (option_map (λ (q : QName). check q r.conname) (path_of cat r.contypid)) (option_map (λ (q : QName). object (key.Con q r.conname)) (class_path_of cat r.conrelid)) ≡ Some t → table_of t ≡ 7
      by true at = mapped_table (λ (q : QName). check q r.conname) 7 (λ q. refl) (path_of cat r.contypid) t at
      by false at = mapped_table (λ (q : QName). object (key.Con q r.conname)) 7 (λ q. refl) (class_path_of cat r.conrelid) t at

  of_body_table : (r : RewriteRow) (t : Slot) → of_body cat r ≡ Some t → table_of t ≡ 14
  of_body_table r t is = mapped_table (λ (q : QName). object (key.Body q)) 14 (λ q. refl) (class_path_of cat r.ev_class) t is

  -- ---- as the tables give oids, one after another

  abbrev roles_given : IdsOf
  roles_given = all_given (λ (r : AuthidRow). r.oid) of_role none cat.pg_authid

  abbrev members_given : IdsOf
  members_given = all_given (λ (r : AuthMembersRow). r.oid) (of_member cat) roles_given cat.pg_auth_members

  abbrev databases_given : IdsOf
  databases_given = all_given (λ (r : DatabaseRow). r.oid) of_database members_given cat.pg_database

  abbrev schemas_given : IdsOf
  schemas_given = cluster_given cat none

  abbrev types_given : IdsOf
  types_given = all_given (λ (r : TypeRow). r.oid) (of_type cat) schemas_given cat.pg_type

  abbrev labels_given : IdsOf
  labels_given = all_given (λ (r : EnumRow). r.oid) (of_label cat) types_given cat.pg_enum

  abbrev relations_given : IdsOf
  relations_given = objects_given cat schemas_given

  abbrev defaults_given : IdsOf
  defaults_given = all_given (λ (r : AttrdefRow). r.oid) (of_default cat) relations_given cat.pg_attrdef

  abbrev constraints_given : IdsOf
  constraints_given = all_given (λ (r : ConstraintRow). r.oid) (of_constraint cat) defaults_given cat.pg_constraint

  abbrev bodies_given : IdsOf
  bodies_given = parts_given cat relations_given

  same_avoided : (rows : List DependRow) (ids : IdsOf) (s : Slot) → get (depends_avoided ids rows).ids s ≡ get ids.ids s
  same_avoided [] ids s = refl
  same_avoided (r ∷ rows) ids s = same_avoided rows (avoiding (avoiding ids r.objid) r.refobjid) s

  after_relations : KeepIds relations_given (opening_ids cat)
  after_relations t had at =
      same_avoided cat.pg_depend bodies_given t
      ∙ all_keep (λ (r : RewriteRow). r.oid) (of_body cat) cat.pg_rewrite constraints_given t had
      (all_keep (λ (r : ConstraintRow). r.oid) (of_constraint cat) cat.pg_constraint defaults_given t had
      (all_keep (λ (r : AttrdefRow). r.oid) (of_default cat) cat.pg_attrdef relations_given t had at))

  after_types : KeepIds types_given (opening_ids cat)
  after_types t had at =
      after_relations t had
      (all_keep (λ (r : ClassRow). r.oid) (of_relation cat) cat.pg_class labels_given t had
      (all_keep (λ (r : EnumRow). r.oid) (of_label cat) cat.pg_enum types_given t had at))

  -- ---- what is free before the turn of types and of relations

  free_before_types : (s : Slot) (n : ℕ) → (table_of s ≡ 0 → ⊥) → (table_of s ≡ 1 → ⊥) → (table_of s ≡ 2 → ⊥) → (table_of s ≡ 15 → ⊥) → IsFree schemas_given s n
  free_before_types s n no_role no_member no_schema no_database =
      others_free (λ (r : NamespaceRow). r.oid) of_schema cat.pg_namespace databases_given s n
      (λ r t is same. no_schema (same ∙ ap table_of (sym (same_thing (object (key.Schema r.nspname)) t is))))
      (others_free (λ (r : DatabaseRow). r.oid) of_database cat.pg_database members_given s n
      (λ r t is same. no_database (same ∙ ap table_of (sym (same_thing (object (key.Database r.datname)) t is))))
      (others_free (λ (r : AuthMembersRow). r.oid) (of_member cat) cat.pg_auth_members roles_given s n
      (λ r t is same. no_member (same ∙ member_table (role_name cat.pg_authid r.roleid) (role_name cat.pg_authid r.member) (role_name cat.pg_authid r.grantor) t is))
      (others_free (λ (r : AuthidRow). r.oid) of_role cat.pg_authid none s n
      (λ r t is same. no_role (same ∙ ap table_of (sym (same_thing (object (key.Role r.rolname)) t is))))
      (get-empty slot_cmp s, contains-empty row_cmp (table_of s, n)))))

  free_before_relations : (s : Slot) (n : ℕ) → table_of s ≡ 4 → IsFree labels_given s n
  free_before_relations s n is =
      others_free (λ (r : EnumRow). r.oid) (of_label cat) cat.pg_enum types_given s n
      (λ r t at same. let wrong : ◌≡◌ {A = ℕ} 4 16 = sym is ∙ same ∙ of_label_table r t at in omega arith)
      (others_free (λ (r : TypeRow). r.oid) (of_type cat) cat.pg_type schemas_given s n
      (λ r t at same. let wrong : ◌≡◌ {A = ℕ} 4 3 = sym is ∙ same ∙ of_type_table r t at in omega arith)
      (free_before_types s n
      (λ same. let wrong : ◌≡◌ {A = ℕ} 4 0 = sym is ∙ same in omega arith)
      (λ same. let wrong : ◌≡◌ {A = ℕ} 4 1 = sym is ∙ same in omega arith)
      (λ same. let wrong : ◌≡◌ {A = ℕ} 4 2 = sym is ∙ same in omega arith)
      (λ same. let wrong : ◌≡◌ {A = ℕ} 4 15 = sym is ∙ same in omega arith)))

  -- ---- what a path was taken from

  path_slot : (f : QName → Slot) → ((p q : QName) → f p ≡ f q → p ≡ q) → (o : Option QName) (q : QName) → option_map f o ≡ Some (f q) → o ≡ Some q
  path_slot f one None q is = absurd cc
  path_slot f one (Some p) q is = ap Some (one p q (same_thing (f p) (f q) is))

  relation_path_of : (p q : QName) → object (key.Rel p) ≡ object (key.Rel q) → p ≡ q
  relation_path_of p q same = by (ap (λ (s : Slot). s.1) same)
    where
      by : key.Rel p ≡ key.Rel q → p ≡ q
      by keys = cc

  type_path_of : (p q : QName) → object (key.UserType p) ≡ object (key.UserType q) → p ≡ q
  type_path_of p q same = by (ap (λ (s : Slot). s.1) same)
    where
      by : key.UserType p ≡ key.UserType q → p ≡ q
      by keys = cc

  -- the path of what is mapped to a slot
  slot_path : (f : QName → Slot) (o : Option QName) (s : Slot) → option_map f o ≡ Some s → (q : QName) × (o ≡ Some q) × (f q ≡ s)
  slot_path f None s is = absurd cc
  slot_path f (Some q) s is = (q, refl, same_thing (f q) s is)

  -- what had its oid from relations' rows
  pub record RelationOf (q : QName) (oid : ℕ) : Type 0 where
    pub row : ClassRow
    pub among : IsAmong row cat.pg_class
    pub path : class_path cat.pg_namespace row ≡ Some q
    pub same : row.oid ≡ oid

  pub relation_of : (q : QName) (oid : ℕ) → get (opening_ids cat).ids (object (key.Rel q)) ≡ Some oid → RelationOf q oid
  relation_of q oid at = by (all_from (λ (r : ClassRow). r.oid) (of_relation cat) (object (key.Rel q)) oid cat.pg_class labels_given of_objects)
    where
      of_objects : get relations_given.ids (object (key.Rel q)) ≡ Some oid
      of_objects =
          not_from (λ (r : AttrdefRow). r.oid) (of_default cat) (object (key.Rel q)) oid cat.pg_attrdef relations_given
          (λ r t is same. let wrong : ◌≡◌ {A = ℕ} 4 6 = same ∙ default_table (class_path_of cat r.adrelid) (column_name cat r.adrelid r.adnum) t is in omega arith)
          (not_from (λ (r : ConstraintRow). r.oid) (of_constraint cat) (object (key.Rel q)) oid cat.pg_constraint defaults_given
          (λ r t is same. let wrong : ◌≡◌ {A = ℕ} 4 7 = same ∙ of_constraint_table r t is in omega arith)
          (not_from (λ (r : RewriteRow). r.oid) (of_body cat) (object (key.Rel q)) oid cat.pg_rewrite constraints_given
          (λ r t is same. let wrong : ◌≡◌ {A = ℕ} 4 14 = same ∙ of_body_table r t is in omega arith)
          (sym (same_avoided cat.pg_depend bodies_given (object (key.Rel q))) ∙ at)))

      by : (get labels_given.ids (object (key.Rel q)) ≡ Some oid) ⊎ ((r : ClassRow) × IsIn r cat.pg_class × (of_relation cat r ≡ Some (object (key.Rel q))) × (r.oid ≡ oid)) → RelationOf q oid
      by (inl before) = absurd (none-some oid (sym (free_before_relations (object (key.Rel q)) oid refl).0 ∙ before))
      by (inr from) = record {
        row = from.0;
        among = place_in cat.pg_class from.0 from.1;
        path = path_slot (λ (p : QName). object (key.Rel p)) relation_path_of (class_path cat.pg_namespace from.0) q from.2;
        same = from.3;
      }

  module _ (well : IsWellFormed cat) where
    pub relations_keep : (r : ClassRow) (q : QName) → IsAmong r cat.pg_class → class_path cat.pg_namespace r ≡ Some q → get (opening_ids cat).ids (object (key.Rel q)) ≡ Some r.oid
    relations_keep r q among path =
        after_relations (object (key.Rel q)) r.oid
        (all_have relation_rules cat cat.pg_class well.relations (λ r. r.oid) (of_relation cat) (λ r. refl) one labels_given (λ a in_rows s is. free_before_relations s a.oid (of_relation_table a s is)) r among (object (key.Rel q)) (ap (option_map (λ (p : QName). object (key.Rel p))) path))
      where
        one : (a b : ClassRow) (s : Slot) → IsAmong a cat.pg_class → IsAmong b cat.pg_class → of_relation cat a ≡ Some s → of_relation cat b ≡ Some s → a ≡ b
        one a b s at other is_a is_b =
            let p = slot_path (λ (p : QName). object (key.Rel p)) (class_path cat.pg_namespace a) s is_a in
            let paths : class_path cat.pg_namespace b ≡ Some p.0 = path_slot (λ (p : QName). object (key.Rel p)) relation_path_of (class_path cat.pg_namespace b) p.0 (is_b ∙ ap Some (sym p.2)) in
            one_class cat well p.0 a b at other p.1 paths

    pub types_keep : (r : TypeRow) (q : QName) → IsAmong r cat.pg_type → type_path cat.pg_namespace r ≡ Some q → get (opening_ids cat).ids (object (key.UserType q)) ≡ Some r.oid
    types_keep r q among path =
        after_types (object (key.UserType q)) r.oid
        (all_have type_rules cat cat.pg_type well.types (λ r. r.oid) (of_type cat) (λ r. refl) one schemas_given (λ a in_rows s is. free s a.oid (of_type_table a s is)) r among (object (key.UserType q)) (ap (option_map (λ (p : QName). object (key.UserType p))) path))
      where
        free : (s : Slot) (n : ℕ) → table_of s ≡ 3 → IsFree schemas_given s n
        free s n is =
            free_before_types s n
            (λ same. let wrong : ◌≡◌ {A = ℕ} 3 0 = sym is ∙ same in omega arith)
            (λ same. let wrong : ◌≡◌ {A = ℕ} 3 1 = sym is ∙ same in omega arith)
            (λ same. let wrong : ◌≡◌ {A = ℕ} 3 2 = sym is ∙ same in omega arith)
            (λ same. let wrong : ◌≡◌ {A = ℕ} 3 15 = sym is ∙ same in omega arith)

        one : (a b : TypeRow) (s : Slot) → IsAmong a cat.pg_type → IsAmong b cat.pg_type → of_type cat a ≡ Some s → of_type cat b ≡ Some s → a ≡ b
        one a b s at other is_a is_b =
            let p = slot_path (λ (p : QName). object (key.UserType p)) (type_path cat.pg_namespace a) s is_a in
            let paths : type_path cat.pg_namespace b ≡ Some p.0 = path_slot (λ (p : QName). object (key.UserType p)) type_path_of (type_path cat.pg_namespace b) p.0 (is_b ∙ ap Some (sym p.2)) in
            one_type cat well p.0 a b at other p.1 paths
