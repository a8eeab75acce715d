-- The rows of an empty cluster stand for it, and others don't.
use Rattle.std.proofs.Common.{◌≡◌, ℕ, zero, suc, ◌<◌, ◌==◌, negsuc, Bool, true, false, true≢false, cond, [], ◌∷◌, length, Option, Some, None, unwrap_or, refl, ap, sym, subst, ◌∙◌, codes, arith}
use Rattle.std.proofs.lemmas.Option.{none-some}
use Rattle.std.specs.FinMap.{get, find, get-from_sorted}
use Rattle.std.specs.List.{slice_get}
use Rattle.cat_rows.specs.declared.roles.AuthidRow.{AuthidRow}
use Rattle.cat_rows.specs.declared.roles.DatabaseRow.{DatabaseRow}
use Rattle.cat_rows.specs.declared.schemas.NamespaceRow.{NamespaceRow}
use Rattle.cat_model.specs.declared.constraint.Encoding.TheVariants as encoding
use Rattle.cat_model.specs.declared.object.Object.TheVariants as object
use Rattle.cat_model.specs.declared.key.Key.{Key}
use Rattle.cat_model.specs.declared.key.Key.TheVariants as key
use Rattle.cat_model.specs.declared.value.Value.{Value}
use Rattle.cat_model.specs.declared.value.Value.TheVariants as value
use Rattle.cat_model.specs.declared.value.Role.{Role}
use Rattle.cat_model.specs.Grants.{owner_only, schema_rights}
use Rattle.cat_model.specs.Keys.{key_cmp, key_eq, key_kind}
use Rattle.cat_model.specs.KeyLaws.{key_eq-same}
use Rattle.cat_model.specs.Values.{Bytes}
use Rattle.cat_names.specs.declared.rights.GrantKind.TheVariants as on
use Rattle.cat_names.specs.Lookups.{is_no_oid}
use Rattle.model_laws.specs.Examples.{postgres}
use Rattle.model_laws.specs.Runs.{empty_entries, empty_cluster}
use Rattle.named_tables.specs.Cluster.{NamedRole, IsRole, role_row, IsMember, member_row, NamedDatabase, IsDatabase, database_row, NamedSchema, IsSchema, IsSchemaRow}
use Rattle.named_tables.specs.Oids.{has_oid}
use Rattle.named_tables.specs.Rights.{IsAcl}
use Rattle.named_tables.specs.Standing.{IsAmong, AreRowsOf}
use Rattle.named_tables.specs.Examples.{first_oids, boot_row, database, public, first_rows, spelled, Stand, Empty, Others}

found : (k : Key) → get empty_cluster k ≡ find key_cmp k empty_entries
found k = get-from_sorted key_cmp empty_entries k tt

-- what is found under one key alone
only : (b : Bool) (x v : Value) → cond b (Some x) None ≡ Some v → (b ≡ true) × (v ≡ x)
only true x v e = (refl, ap (λ (o : Option Value). unwrap_or o x) (sym e))
only false x v e = absurd (none-some v e)

nothing : (k : Key) (v : Value) → None ≡ get empty_cluster k → get empty_cluster k ≡ Some v → ⊥
nothing k v none is = none-some v (none ∙ is)

abbrev boot_role : Role
boot_role = record { superuser = true; inherit = true; create_role = true; create_db = true; login = true; replication = true; bypass_rls = true; limit = negsuc 0; password = None; valid_until = None }

-- ---- what there is

role_there : (name : Bytes) (v : Value) → get empty_cluster (key.Role name) ≡ Some v → (key.Role name ≡ key.Role postgres) × (v ≡ value.Role boot_role)
role_there name v is =
    let at = only (key_eq (key.Role name) (key.Role postgres)) (value.Role boot_role) v (sym (found (key.Role name)) ∙ is) in
    (key_eq-same (key.Role name) (key.Role postgres) at.0, at.1)

database_there : (name : Bytes) (v : Value) → get empty_cluster (key.Database name) ≡ Some v → key.Database name ≡ key.Database postgres
database_there name v is =
    let at = only (key_eq (key.Database name) (key.Database postgres)) (value.Database encoding.Utf8) v (sym (found (key.Database name)) ∙ is) in
    key_eq-same (key.Database name) (key.Database postgres) at.0

schema_there : (name : Bytes) (v : Value) → get empty_cluster (key.Schema name) ≡ Some v → key.Schema name ≡ key.Schema (codes "public")
schema_there name v is =
    let at = only (key_eq (key.Schema name) (key.Schema (codes "public"))) value.Schema v (sym (found (key.Schema name)) ∙ is) in
    key_eq-same (key.Schema name) (key.Schema (codes "public")) at.0

abbrev name_of : Key → Bytes
name_of (key.Role name) = name
name_of (key.Database name) = name
name_of (key.Schema name) = name
name_of _ = []

role_is : (t : NamedRole) → IsRole empty_cluster t → t ≡ record { name = postgres; role = boot_role }
role_is t is =
    let at = role_there t.name (value.Role t.role) is in
    let names : t.name ≡ postgres = ap name_of at.0 in
    let values : value.Role t.role ≡ value.Role boot_role = at.1 in
    let roles : t.role ≡ boot_role = cc in
    λ i. record { name = names i; role = roles i }

database_is : (t : NamedDatabase) → IsDatabase empty_cluster t → t ≡ record { name = postgres; owner = postgres }
database_is t is =
    let names : t.name ≡ postgres = ap name_of (database_there t.name (value.Database encoding.Utf8) is.there) in
    let owners : Some (value.Owner postgres) ≡ Some (value.Owner t.owner) = sym (found (key.Owner (object.Database postgres))) ∙ ap (λ (n : Bytes). get empty_cluster (key.Owner (object.Database n))) (sym names) ∙ is.owner in
    let owner : t.owner ≡ postgres = cc in
    λ i. record { name = names i; owner = owner i }

schema_is : (t : NamedSchema) → IsSchema empty_cluster t → t ≡ record { name = codes "public"; owner = postgres; grants = owner_only schema_rights }
schema_is t is =
    let names : t.name ≡ codes "public" = ap name_of (schema_there t.name value.Schema is.there) in
    let owners : Some (value.Owner postgres) ≡ Some (value.Owner t.owner) = sym (found (key.Owner (object.Schema (codes "public")))) ∙ ap (λ (n : Bytes). get empty_cluster (key.Owner (object.Schema n))) (sym names) ∙ is.owner in
    let owner : t.owner ≡ postgres = cc in
    let lists : Some (value.Grants (owner_only schema_rights)) ≡ Some (value.Grants t.grants) = sym (found (key.Acl (object.Schema (codes "public")))) ∙ ap (λ (n : Bytes). get empty_cluster (key.Acl (object.Schema n))) (sym names) ∙ is.grants in
    let grants : t.grants ≡ owner_only schema_rights = cc in
    λ i. record { name = names i; owner = owner i; grants = grants i }

-- the other way round
abbrev the_role : NamedRole
the_role = record { name = postgres; role = boot_role }

abbrev the_database : NamedDatabase
the_database = record { name = postgres; owner = postgres }

abbrev the_schema : NamedSchema
the_schema = record { name = codes "public"; owner = postgres; grants = owner_only schema_rights }

is_the_role : IsRole empty_cluster the_role
is_the_role = found (key.Role postgres)

is_the_database : IsDatabase empty_cluster the_database
is_the_database = record { there = found (key.Database postgres); owner = found (key.Owner (object.Database postgres)) }

is_the_schema : IsSchema empty_cluster the_schema
is_the_schema = record { there = found (key.Schema (codes "public")); owner = found (key.Owner (object.Schema (codes "public"))); grants = found (key.Acl (object.Schema (codes "public"))) }

-- ---- tables of one row

one_row : {R : Type 0} (r row : R) → IsAmong (r ∷ []) row → row ≡ r
one_row r row at = by at.0 at.1
  where
    by : (i : ℕ) → slice_get (r ∷ []) i ≡ Some row → row ≡ r
    by zero e = ap (λ o. unwrap_or o r) (sym e)
    by (suc i) e = absurd (none-some row e)

no_second : {R : Type 0} (r earlier later : R) (i j : ℕ) → i < j → slice_get (r ∷ []) j ≡ Some later → ⊥
no_second r earlier later i zero below at = omega (arith, below)
no_second r earlier later i (suc j) below at = none-some later at

one_of : {T R : Type 0} (There : T → Type 0) (Says : T → R → Type 0) (thing : T) (row : R) → There thing → Says thing row → ((t : T) → There t → t ≡ thing) → AreRowsOf There Says (row ∷ [])
one_of {T} {R} There Says thing row there says alone = record {
  each = λ t is. (row, (0, refl), subst (λ (x : T). Says x row) (sym (alone t is)) says);
  only = λ r at. (thing, there, subst (λ (x : R). Says thing x) (sym (one_row row r at)) says);
  once = λ i j earlier later t below at_i at_j one two. no_second row earlier later i j below at_j;
}

none_of : {T R : Type 0} (There : T → Type 0) (Says : T → R → Type 0) → ((t : T) → There t → ⊥) → AreRowsOf There Says []
none_of There Says none = record {
  each = λ t is. absurd (none t is);
  only = λ r at. absurd (none-some r at.1);
  once = λ i j earlier later t below at_i at_j one two. none-some later at_j;
}

pub rows_stand : Stand first_rows
rows_stand = record {
  roles = one_of (IsRole empty_cluster) (λ r row. row ≡ role_row first_oids r) the_role boot_row is_the_role refl role_is;
  members = none_of (IsMember empty_cluster) (λ m row. row ≡ member_row first_oids m) (λ m is. nothing (key.Member m.role m.member m.grantor) (value.Member m.options) (sym (found (key.Member m.role m.member m.grantor))) is);
  databases = one_of (IsDatabase empty_cluster) (λ d row. row ≡ database_row first_oids postgres d) the_database database is_the_database refl database_is;
  schemas = one_of (IsSchema empty_cluster) (IsSchemaRow first_oids) the_schema public is_the_schema (record { oid = refl; name = refl; owner = refl; rights = refl }) schema_is;
}

-- ---- oids

data Sort (k : Key) : Type 0 where
  a_role : k ≡ key.Role postgres → Sort k
  a_database : k ≡ key.Database postgres → Sort k
  a_schema : k ≡ key.Schema (codes "public") → Sort k

sort : (k : Key) (v : Value) → get empty_cluster k ≡ Some v → has_oid k ≡ true → Sort k
sort (key.Role name) v is has = a_role (role_there name v is).0
sort (key.Database name) v is has = a_database (database_there name v is)
sort (key.Schema name) v is has = a_schema (schema_there name v is)
sort (key.Member a b c) v is has = absurd (nothing (key.Member a b c) v (sym (found (key.Member a b c))) is)
sort (key.UserType q) v is has = absurd (nothing (key.UserType q) v (sym (found (key.UserType q))) is)
sort (key.Rel q) v is has = absurd (nothing (key.Rel q) v (sym (found (key.Rel q))) is)
sort (key.Default q c) v is has = absurd (nothing (key.Default q c) v (sym (found (key.Default q c))) is)
sort (key.Con q c) v is has = absurd (nothing (key.Con q c) v (sym (found (key.Con q c))) is)
sort (key.Body q) v is has = absurd (nothing (key.Body q) v (sym (found (key.Body q))) is)
sort k v is has = cc

kinds_of : (j k a b : Key) → j ≡ a → k ≡ b → key_kind j ≡ key_kind k → key_kind a ≡ key_kind b
kinds_of j k a b at_j at_k same = ap key_kind (sym at_j) ∙ same ∙ ap key_kind at_k

apart : (j k : Key) → Sort j → Sort k → key_kind j ≡ key_kind k → j ≡ k
apart j k (a_role at) (a_role other) same = at ∙ sym other
apart j k (a_role at) (a_database other) same = let e : 0 ≡ 15 = kinds_of j k (key.Role postgres) (key.Database postgres) at other same in absurd (omega (arith, e))
apart j k (a_role at) (a_schema other) same = let e : 0 ≡ 2 = kinds_of j k (key.Role postgres) (key.Schema (codes "public")) at other same in absurd (omega (arith, e))
apart j k (a_database at) (a_role other) same = let e : 15 ≡ 0 = kinds_of j k (key.Database postgres) (key.Role postgres) at other same in absurd (omega (arith, e))
apart j k (a_database at) (a_database other) same = at ∙ sym other
apart j k (a_database at) (a_schema other) same = let e : 15 ≡ 2 = kinds_of j k (key.Database postgres) (key.Schema (codes "public")) at other same in absurd (omega (arith, e))
apart j k (a_schema at) (a_role other) same = let e : 2 ≡ 0 = kinds_of j k (key.Schema (codes "public")) (key.Role postgres) at other same in absurd (omega (arith, e))
apart j k (a_schema at) (a_database other) same = let e : 2 ≡ 15 = kinds_of j k (key.Schema (codes "public")) (key.Database postgres) at other same in absurd (omega (arith, e))
apart j k (a_schema at) (a_schema other) same = at ∙ sym other

some : (k : Key) → Sort k → is_no_oid (first_oids k) ≡ false
some k (a_role at) = ap (λ (x : Key). is_no_oid (first_oids x)) at
some k (a_database at) = ap (λ (x : Key). is_no_oid (first_oids x)) at
some k (a_schema at) = ap (λ (x : Key). is_no_oid (first_oids x)) at

pub empty_stands : Empty
empty_stands = record {
  oids = record {
    apart = λ j k v w is_j is_k has has_too same equal. apart j k (sort j v is_j has) (sort k w is_k has_too) same;
    some = λ k v is has. some k (sort k v is has);
  };
  started = record { boot = postgres; role = boot_role; boot_there = found (key.Role postgres); boot_oid = refl; current_there = found (key.Database postgres) };
  stand = rows_stand;
}

-- ---- rows that don't stand for it

pub others_do_not : Others
others_do_not = record {
  no_schema = λ stand. let at = stand.schemas.each the_schema is_the_schema in none-some at.0 at.1.1;
  one_more = λ stand.
      let at = stand.schemas.only (record public { oid = 2201; nspname = codes "a" }) (1, refl) in
      let names : codes "a" ≡ codes "public" = at.2.name ∙ ap (λ (t : NamedSchema). t.name) (schema_is at.0 at.1) in
      true≢false (ap (λ (n : Bytes). length n == 1) names);
  role_twice = λ stand. stand.roles.once 0 1 boot_row boot_row the_role (omega arith) refl refl refl refl;
  other_attribute = λ stand.
      let at = stand.roles.each the_role is_the_role in
      true≢false (ap (λ (r : AuthidRow). r.rolcanlogin) (sym at.2 ∙ one_row (record boot_row { rolcanlogin = false }) at.0 at.1));
  other_oid = λ stand.
      let at = stand.databases.each the_database is_the_database in
      true≢false (ap (λ (r : DatabaseRow). r.oid == 5) (sym at.2 ∙ one_row (record database { oid = 6 }) at.0 at.1));
  not_current = λ stand.
      let at = stand.databases.each the_database is_the_database in
      true≢false (ap (λ (r : DatabaseRow). r.datcurrent) (sym at.2 ∙ one_row (record database { datcurrent = false }) at.0 at.1));
  default_written = λ stand.
      let at = stand.schemas.each the_schema is_the_schema in
      let list = one_row (record public { nspacl = Some (spelled ∷ []) }) at.0 at.1 in
      (subst (λ (r : NamespaceRow). IsAcl on.Schema postgres (owner_only schema_rights) r.nspacl) list at.2.rights).0 refl;
}
