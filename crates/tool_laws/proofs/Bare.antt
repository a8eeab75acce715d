-- A catalogue that was tried for other objects than schemas is that of its schemas alone.
use Rattle.std.proofs.Common.{◌≡◌, negsuc, Bool, true, false, cond, not, ◌&&◌, ◌||◌, ◌==◌, List, [], ◌∷◌, ◌++◌, map, Option, Some, None, is_some, Ok, option_and_then, refl, sym, ap, ◌∙◌, append-nil, codes}
use Rattle.std.specs.Ordering.{int_eq}
use Rattle.std.specs.Str.{bytes_eq}
use Rattle.std.proofs.lemmas.Bool.Decides.{Decides-int_eq}
use Rattle.std.proofs.lemmas.Slice.Eq.{bytes_eq-Decides}
use Rattle.std.proofs.lemmas.Bool.{eqb-true}
use Rattle.std.proofs.lemmas.List.{append_assoc}
use Rattle.cat_rows.specs.declared.catalogue.Catalogue.{Catalogue}
use Rattle.cat_rows.specs.declared.roles.AuthidRow.{AuthidRow}
use Rattle.cat_rows.specs.declared.roles.DatabaseRow.{DatabaseRow}
use Rattle.cat_rows.specs.declared.schemas.NamespaceRow.{NamespaceRow}
use Rattle.cat_rows.specs.RowCells.{namespace_cells}
use Rattle.cat_names.specs.Rights.{is_empty_list}
use Rattle.schema_folders.specs.declared.schemas.SchemaRow.{SchemaRow}
use Rattle.schema_folders.specs.Naming.{boot, has_name, has_oid}
use Rattle.schema_folders.specs.Folder.{plain_row, joined, rows_after, has_public, if_public, schemas_of, boot_row, database_row, namespace_row, schemas_alone, may_all, is_unlimited, is_boot_row, is_database_row, is_alone, has_no_relations, has_no_more, is_bare, or_unbuilt, opening_in}

-- both parts of a test that passed
parts : (a b : Bool) → (a && b) ≡ true → (a ≡ true) × (b ≡ true)
parts true b e = (refl, e)
parts false b e = absurd cc

none_there : {X : Type 0} (o : Option X) → not (is_some o) ≡ true → o ≡ None
none_there None e = refl
none_there (Some x) e = absurd cc

nothing_in : {X : Type 0} (xs : List X) → is_empty_list xs ≡ true → xs ≡ []
nothing_in [] e = refl
nothing_in (x ∷ xs) e = absurd cc

-- ---- the role and the database

role_is : (row : AuthidRow) → is_boot_row row ≡ true → row ≡ boot_row
role_is row e =
    let p3 = parts ((row.oid == 10) && bytes_eq row.rolname boot && may_all row) (is_unlimited row) e in
    let p2 = parts ((row.oid == 10) && bytes_eq row.rolname boot) (may_all row) p3.0 in
    let p1 = parts (row.oid == 10) (bytes_eq row.rolname boot) p2.0 in
    let m6 = parts (row.rolsuper && row.rolinherit && row.rolcreaterole && row.rolcreatedb && row.rolcanlogin && row.rolreplication) (row.rolbypassrls) p2.1 in
    let m5 = parts (row.rolsuper && row.rolinherit && row.rolcreaterole && row.rolcreatedb && row.rolcanlogin) (row.rolreplication) m6.0 in
    let m4 = parts (row.rolsuper && row.rolinherit && row.rolcreaterole && row.rolcreatedb) (row.rolcanlogin) m5.0 in
    let m3 = parts (row.rolsuper && row.rolinherit && row.rolcreaterole) (row.rolcreatedb) m4.0 in
    let m2 = parts (row.rolsuper && row.rolinherit) (row.rolcreaterole) m3.0 in
    let m1 = parts (row.rolsuper) (row.rolinherit) m2.0 in
    let u2 = parts (int_eq row.rolconnlimit (negsuc 0) && not (is_some row.rolpassword)) (not (is_some row.rolvaliduntil)) p3.1 in
    let u1 = parts (int_eq row.rolconnlimit (negsuc 0)) (not (is_some row.rolpassword)) u2.0 in
    let is_oid = eqb-true row.oid 10 p1.0 in
    let is_name = (bytes_eq-Decides row.rolname boot).0 p1.1 in
    let is_limit = (Decides-int_eq row.rolconnlimit (negsuc 0)).0 u1.0 in
    let no_password = none_there row.rolpassword u1.1 in
    let no_end = none_there row.rolvaliduntil u2.1 in
    λ i. record {
      oid = is_oid i;
      rolname = is_name i;
      rolsuper = m1.0 i;
      rolinherit = m1.1 i;
      rolcreaterole = m2.1 i;
      rolcreatedb = m3.1 i;
      rolcanlogin = m4.1 i;
      rolreplication = m5.1 i;
      rolbypassrls = m6.1 i;
      rolconnlimit = is_limit i;
      rolpassword = no_password i;
      rolvaliduntil = no_end i;
    }

database_is : (row : DatabaseRow) → is_database_row row ≡ true → row ≡ database_row
database_is row e =
    let p4 = parts ((row.oid == 5) && bytes_eq row.datname boot && (row.datdba == 10) && bytes_eq row.encoding (codes "UTF8")) (row.datcurrent) e in
    let p3 = parts ((row.oid == 5) && bytes_eq row.datname boot && (row.datdba == 10)) (bytes_eq row.encoding (codes "UTF8")) p4.0 in
    let p2 = parts ((row.oid == 5) && bytes_eq row.datname boot) ((row.datdba == 10)) p3.0 in
    let p1 = parts (row.oid == 5) (bytes_eq row.datname boot) p2.0 in
    let is_oid = eqb-true row.oid 5 p1.0 in
    let is_name = (bytes_eq-Decides row.datname boot).0 p1.1 in
    let is_owner = eqb-true row.datdba 10 p2.1 in
    let is_encoding = (bytes_eq-Decides row.encoding (codes "UTF8")).0 p3.1 in
    λ i. record { oid = is_oid i; datname = is_name i; datdba = is_owner i; encoding = is_encoding i; datcurrent = p4.1 i }

alone : {R : Type 0} (test : R → Bool) (one : R) → ((row : R) → test row ≡ true → row ≡ one) → (rows : List R) → is_alone test rows ≡ true → rows ≡ one ∷ []
alone test one is [] e = absurd cc
alone test one is (row ∷ []) e = ap (λ r. r ∷ []) (is row e)
alone test one is (row ∷ other ∷ more) e = absurd cc

-- ---- the schemas

-- a plain row is that of its schema
plain_is : (row : NamespaceRow) (schema : SchemaRow) → plain_row (namespace_cells row) ≡ Some schema → row ≡ namespace_row schema
plain_is row schema e = by row.nspacl refl (row.nspowner == 10) refl e
  where
    by : (acl : _) → row.nspacl ≡ acl → (owned : Bool) → (row.nspowner == 10) ≡ owned → plain_row (namespace_cells (record row { nspacl = acl })) ≡ Some schema → row ≡ namespace_row schema
    by None a owned o e = owner owned o e
      where
        owner : (owned : Bool) → (row.nspowner == 10) ≡ owned → cond {A = Option SchemaRow} (row.nspowner == 10) (Some (record { oid = row.oid; name = row.nspname })) None ≡ Some schema → row ≡ namespace_row schema
        owner true o e =
            let is_owner = eqb-true row.nspowner 10 o in
            let made : ◌≡◌ {A = Option SchemaRow} (Some (record { oid = row.oid; name = row.nspname })) (Some schema) = rw o at e in
            let same : ◌≡◌ {A = SchemaRow} (record { oid = row.oid; name = row.nspname }) schema = cc in
            (λ i. record { oid = row.oid; nspname = row.nspname; nspowner = is_owner i; nspacl = a i }) ∙ ap namespace_row same
        owner false o e =
            let made : ◌≡◌ {A = Option SchemaRow} None (Some schema) = rw o at e in
            absurd cc
    by (Some acl) a owned o e = absurd cc

pub record AreOf (before rows : List SchemaRow) (ns : List NamespaceRow) : Type 0 where
  pub more : List SchemaRow
  pub rows_are : rows ≡ before ++ more
  pub are : ns ≡ map namespace_row more

joined_is : (before rows : List SchemaRow) (found : Option SchemaRow) → joined before found ≡ Some rows → (schema : SchemaRow) × (found ≡ Some schema) × (rows ≡ before ++ schema ∷ [])
joined_is before rows None e = absurd cc
joined_is before rows (Some schema) e = by (not (has_oid schema.oid before || has_name schema.name before)) e
  where
    by : (new : Bool) → cond {A = Option (List SchemaRow)} new (Some (before ++ schema ∷ [])) None ≡ Some rows → (s : SchemaRow) × (◌≡◌ {A = Option SchemaRow} (Some schema) (Some s)) × (rows ≡ before ++ s ∷ [])
    by true e = let same : before ++ schema ∷ [] ≡ rows = cc in (schema, refl, sym same)
    by false e = absurd cc

all_are : (ns : List NamespaceRow) (before rows : List SchemaRow) → rows_after before (map namespace_cells ns) ≡ Some rows → AreOf before rows ns
all_are [] before rows e = let same : before ≡ rows = cc in record { more = []; rows_are = sym same ∙ sym (append-nil before); are = refl }
all_are (n ∷ ns) before rows e =
    by (joined before (plain_row (namespace_cells n))) (λ all. all_are ns all rows) (λ all j. joined_is before all (plain_row (namespace_cells n)) j) e
  where
    by : (found : Option (List SchemaRow)) → ((all : List SchemaRow) → rows_after all (map namespace_cells ns) ≡ Some rows → AreOf all rows ns)
        → ((all : List SchemaRow) → found ≡ Some all → (schema : SchemaRow) × (plain_row (namespace_cells n) ≡ Some schema) × (all ≡ before ++ schema ∷ []))
        → option_and_then (λ all. rows_after all (map namespace_cells ns)) found ≡ Some rows → AreOf before rows (n ∷ ns)
    by None later here e = absurd cc
    by (Some all) later here e =
        let one = here all refl in
        let rest = later all e in
        record {
          more = one.0 ∷ rest.more;
          rows_are = rest.rows_are ∙ ap (λ (l : List SchemaRow). l ++ rest.more) one.2 ∙ append_assoc before (one.0 ∷ []) rest.more;
          are = ap (λ (r : NamespaceRow). r ∷ ns) (plain_is n one.0 one.1) ∙ ap (λ (l : List NamespaceRow). namespace_row one.0 ∷ l) rest.are;
        }

public_is : (found : Option (List SchemaRow)) (rows : List SchemaRow) → option_and_then if_public found ≡ Some rows → found ≡ Some rows
public_is None rows e = absurd cc
public_is (Some rs) rows e = by (has_public rs) e
  where
    by : (b : Bool) → cond {A = Option (List SchemaRow)} b (Some rs) None ≡ Some rows → ◌≡◌ {A = Option (List SchemaRow)} (Some rs) (Some rows)
    by true e = e
    by false e = absurd cc

-- ---- the catalogue

bare_is : (cat : Catalogue) (rows : List SchemaRow) → is_bare cat ≡ true → schemas_of (map namespace_cells cat.pg_namespace) ≡ Some rows → cat ≡ schemas_alone rows
bare_is cat rows bare e =
    let p3 = parts (is_alone is_boot_row cat.pg_authid && is_alone is_database_row cat.pg_database && has_no_relations cat) (has_no_more cat) bare in
    let p2 = parts (is_alone is_boot_row cat.pg_authid && is_alone is_database_row cat.pg_database) (has_no_relations cat) p3.0 in
    let p1 = parts (is_alone is_boot_row cat.pg_authid) (is_alone is_database_row cat.pg_database) p2.0 in
    let r5 = parts (is_empty_list cat.pg_type && is_empty_list cat.pg_enum && is_empty_list cat.pg_class && is_empty_list cat.pg_attribute && is_empty_list cat.pg_attrdef) (is_empty_list cat.pg_constraint) p2.1 in
    let r4 = parts (is_empty_list cat.pg_type && is_empty_list cat.pg_enum && is_empty_list cat.pg_class && is_empty_list cat.pg_attribute) (is_empty_list cat.pg_attrdef) r5.0 in
    let r3 = parts (is_empty_list cat.pg_type && is_empty_list cat.pg_enum && is_empty_list cat.pg_class) (is_empty_list cat.pg_attribute) r4.0 in
    let r2 = parts (is_empty_list cat.pg_type && is_empty_list cat.pg_enum) (is_empty_list cat.pg_class) r3.0 in
    let r1 = parts (is_empty_list cat.pg_type) (is_empty_list cat.pg_enum) r2.0 in
    let m5 = parts (is_empty_list cat.pg_index && is_empty_list cat.pg_sequence && is_empty_list cat.pg_rewrite && is_empty_list cat.pg_description && is_empty_list cat.pg_depend) (is_empty_list cat.pg_auth_members) p3.1 in
    let m4 = parts (is_empty_list cat.pg_index && is_empty_list cat.pg_sequence && is_empty_list cat.pg_rewrite && is_empty_list cat.pg_description) (is_empty_list cat.pg_depend) m5.0 in
    let m3 = parts (is_empty_list cat.pg_index && is_empty_list cat.pg_sequence && is_empty_list cat.pg_rewrite) (is_empty_list cat.pg_description) m4.0 in
    let m2 = parts (is_empty_list cat.pg_index && is_empty_list cat.pg_sequence) (is_empty_list cat.pg_rewrite) m3.0 in
    let m1 = parts (is_empty_list cat.pg_index) (is_empty_list cat.pg_sequence) m2.0 in
    let of = all_are cat.pg_namespace [] rows (public_is (rows_after [] (map namespace_cells cat.pg_namespace)) rows e) in
    let schemas : cat.pg_namespace ≡ map namespace_row rows = of.are ∙ ap (λ (l : List SchemaRow). map namespace_row l) (sym of.rows_are) in
    let role = alone is_boot_row boot_row role_is cat.pg_authid p1.0 in
    let database = alone is_database_row database_row database_is cat.pg_database p1.1 in
    let no_types = nothing_in cat.pg_type r1.0 in
    let no_labels = nothing_in cat.pg_enum r1.1 in
    let no_relations = nothing_in cat.pg_class r2.1 in
    let no_columns = nothing_in cat.pg_attribute r3.1 in
    let no_defaults = nothing_in cat.pg_attrdef r4.1 in
    let no_constraints = nothing_in cat.pg_constraint r5.1 in
    let no_indexes = nothing_in cat.pg_index m1.0 in
    let no_sequences = nothing_in cat.pg_sequence m1.1 in
    let no_bodies = nothing_in cat.pg_rewrite m2.1 in
    let no_comments = nothing_in cat.pg_description m3.1 in
    let no_dependencies = nothing_in cat.pg_depend m4.1 in
    let no_members = nothing_in cat.pg_auth_members m5.1 in
    λ i. record {
      pg_authid = role i;
      pg_auth_members = no_members i;
      pg_database = database i;
      pg_namespace = schemas i;
      pg_type = no_types i;
      pg_enum = no_labels i;
      pg_class = no_relations i;
      pg_attribute = no_columns i;
      pg_attrdef = no_defaults i;
      pg_constraint = no_constraints i;
      pg_index = no_indexes i;
      pg_sequence = no_sequences i;
      pg_rewrite = no_bodies i;
      pg_description = no_comments i;
      pg_depend = no_dependencies i;
    }

-- an opening is the catalogue of its schemas
pub opening_is : (cat : Catalogue) (rows : List SchemaRow) → opening_in cat ≡ Ok rows → cat ≡ schemas_alone rows
opening_is cat rows e = by (is_bare cat) refl (schemas_of (map namespace_cells cat.pg_namespace)) refl e
  where
    by : (bare : Bool) → is_bare cat ≡ bare → (found : Option (List SchemaRow)) → schemas_of (map namespace_cells cat.pg_namespace) ≡ found → or_unbuilt bare found ≡ Ok rows → cat ≡ schemas_alone rows
    by bare b None f e = absurd cc
    by true b (Some rs) f e = let same : rs ≡ rows = cc in bare_is cat rows b (f ∙ ap Some same)
    by false b (Some rs) f e = absurd cc
