-- Rows by their oids and paths.
use Rattle.std.proofs.Common.{◌≡◌, ℕ, pos, Bool, true, List, [], ◌∷◌, map, Option, Some, None, refl, sym, ap, subst, ◌∙◌}
use Rattle.std.specs.Cmp.{tied_itself, nat_cmp_total, int_cmp_total}
use Rattle.std.specs.Cmp.Lexicographic.{nat_list_cmp_total}
use Rattle.std.specs.FinMap.{nat_cmp-IsAntisymmetric}
use Rattle.std.specs.Option.{option_map}
use Rattle.std.specs.Ordering.{nat_cmp, int_cmp, eq_by_cmp, is_eq}
use Rattle.cat_rows.specs.declared.schemas.NamespaceRow.{NamespaceRow}
use Rattle.cat_model.specs.declared.object.QName.{QName}
use Rattle.cat_model.specs.Values.{Bytes, bytes_cmp}
use Rattle.cat_names.specs.Lookups.{same_oid, has_oid, schema_oids}
use Rattle.cat_book.specs.Meets.{AreDistinct}
use Rattle.cat_book.specs.Paths.{schema_of, path_in}
use Rattle.cat_book.specs.Rules.{RowName, name_cmp, named, named_in}
use Rattle.sound_rows.specs.Rows.{IsAmong}
use Rattle.sound_rows.proofs.Among.{one_of_key, has_found, find_found, found_find}
use Rattle.sound_rows.proofs.Roles.{same_oid-equal}

-- ---- keys tie with themselves

pub oid_tied : (oid : ℕ) → eq_by_cmp nat_cmp oid oid ≡ true
oid_tied oid = ap is_eq (tied_itself nat_cmp_total oid)

pub name_tied : (k : RowName) → eq_by_cmp name_cmp k k ≡ true
name_tied k = rw (tied_itself nat_cmp_total k.0, tied_itself nat_cmp_total k.1, tied_itself int_cmp_total k.2, tied_itself nat_list_cmp_total k.3) refl

-- rows of one oid are one
pub one_of_oid : {R : Type 0} (oid : R → ℕ) (rows : List R) → AreDistinct nat_cmp (λ r. Some (oid r)) rows → (a b : R) → IsAmong a rows → IsAmong b rows → oid a ≡ oid b → a ≡ b
one_of_oid oid rows apart a b among other e = one_of_key nat_cmp oid_tied (λ r. Some (oid r)) rows apart a b (oid b) among other (ap (λ (n : ℕ). Some n) e) refl

-- ---- schemas

pub one_schema : (schemas : List NamespaceRow) → AreDistinct name_cmp (λ s. (named s.oid s.nspname).name) schemas → (s t : NamespaceRow) → IsAmong s schemas → IsAmong t schemas → s.nspname ≡ t.nspname → s ≡ t
one_schema schemas apart s t among other e =
    one_of_key name_cmp name_tied (λ (u : NamespaceRow). (named u.oid u.nspname).name) schemas apart s t (0, 0, pos 0, t.nspname) among other (ap (λ (n : Bytes). (named s.oid n).name) e) refl

-- the schema of a path
pub record IsPathIn (schemas : List NamespaceRow) (oid : ℕ) (name : Bytes) (q : QName) : Type 0 where
  pub schema : NamespaceRow
  pub among : IsAmong schema schemas
  pub same : oid ≡ schema.oid
  pub path : record { schema = schema.nspname; name = name } ≡ q

pub path_found : (schemas : List NamespaceRow) (oid : ℕ) (name : Bytes) (q : QName) → path_in schemas oid name ≡ Some q → IsPathIn schemas oid name q
path_found schemas oid name q e = by (schema_of schemas oid) refl e
  where
    by : (o : Option NamespaceRow) → schema_of schemas oid ≡ o → option_map (λ (s : NamespaceRow). let p : QName = record { schema = s.nspname; name = name } in p) o ≡ Some q → IsPathIn schemas oid name q
    by None is h = absurd cc
    by (Some s) is h =
        let found = find_found (λ (t : NamespaceRow). same_oid oid t.oid) schemas s is in
        let path : record { schema = s.nspname; name = name } ≡ q = cc in
        record { schema = s; among = found.0; same = same_oid-equal oid s.oid found.1; path = path }

pub path_there : (schemas : List NamespaceRow) (oid : ℕ) (name : Bytes) → has_oid (schema_oids schemas) oid ≡ true → (q : QName) × (path_in schemas oid name ≡ Some q)
path_there schemas oid name e =
    let has = has_found nat_cmp nat_cmp-IsAntisymmetric (λ (s : NamespaceRow). s.oid) schemas oid e in
    let passes : same_oid oid has.0.oid ≡ true = subst (λ (n : ℕ). same_oid oid n ≡ true) (sym has.2) (oid_tied oid) in
    let found = found_find (λ (s : NamespaceRow). same_oid oid s.oid) schemas has.0 has.1 passes in
    (record { schema = found.0.nspname; name = name }, ap (option_map (λ (s : NamespaceRow). let p : QName = record { schema = s.nspname; name = name } in p)) found.1)

-- rows whose names within a schema are distinct have distinct paths
pub one_path : {R : Type 0} (schemas : List NamespaceRow) → AreDistinct name_cmp (λ s. (named s.oid s.nspname).name) schemas
    → (oid space : R → ℕ) (name : R → Bytes) (rows : List R) → AreDistinct name_cmp (λ r. (named_in (oid r) (space r) (name r)).name) rows
    → (a b : R) (q : QName) → IsAmong a rows → IsAmong b rows → path_in schemas (space a) (name a) ≡ Some q → path_in schemas (space b) (name b) ≡ Some q → a ≡ b
one_path schemas schemas_apart oid space name rows apart a b q among other pa pb =
    let one = path_found schemas (space a) (name a) q pa in
    let two = path_found schemas (space b) (name b) q pb in
    let both = one.path ∙ sym two.path in
    let schema : one.schema ≡ two.schema = one_schema schemas schemas_apart one.schema two.schema one.among two.among (ap (λ p. p.schema) both) in
    let spaces : space a ≡ space b = one.same ∙ ap (λ s. s.oid) schema ∙ sym two.same in
    let names : name a ≡ name b = ap (λ p. p.name) both in
    one_of_key name_cmp name_tied (λ r. (named_in (oid r) (space r) (name r)).name) rows apart a b (space b, 0, pos 0, name b) among other
    (ap (λ (n : ℕ). Some (n, 0, pos 0, name a)) spaces ∙ ap (λ (n : Bytes). Some (space b, 0, pos 0, n)) names) refl
