-- What the catalogue by names of a folder of schemas has at a key: it depends on which names the rows have, and not
-- on their order. And what CREATE SCHEMA and ALTER SCHEMA .. OWNER TO say of it.
use Rattle.std.proofs.Common.{◌≡◌, ℕ, Bool, true, false, cond, not, ◌||◌, List, [], ◌∷◌, ◌++◌, Option, Some, None, Result, Ok, Err, refl, sym, ap, ◌∙◌, ◌≢◌}
use Rattle.std.specs.declared.cmp.Ordering.{Ordering}
use Rattle.std.specs.declared.cmp.Ordering.TheVariants.{Less, Equal, Greater}
use Rattle.std.specs.Ordering.{eq_by_cmp, is_eq, ordering_then}
use Rattle.std.specs.Cmp.{IsTotalOrder, on_total, eq_by_cmp_equiv}
use Rattle.std.specs.Cmp.Lexicographic.{nat_list_cmp_total, lists_total}
use Rattle.std.specs.List.Sorted.{IsPermutation}
use Rattle.std.specs.FinMap.{get, insert, get-insert, same_map, get-from_entries}
use Rattle.std.proofs.lemmas.Bool.{false_from_ne_true}
use Rattle.std.proofs.lemmas.List.Sorted.{list_any-IsPermutation}
use Rattle.cat_model.specs.declared.object.Object.{Object}
use Rattle.cat_model.specs.declared.object.Object.TheVariants as object
use Rattle.cat_model.specs.declared.key.Key.{Key}
use Rattle.cat_model.specs.declared.key.Key.TheVariants as key
use Rattle.cat_model.specs.declared.cause.Cause.{Cause}
use Rattle.cat_model.specs.declared.cause.Cause.TheVariants as cause
use Rattle.cat_model.specs.declared.stmt.Stmt.TheVariants as stmt
use Rattle.cat_model.specs.Keys.{key_cmp}
use Rattle.cat_model.specs.KeyLaws.{key_cmp_total, key_cmp-IsAntisymmetric, key_eq-same}
use Rattle.cat_model.specs.declared.value.Value.TheVariants as value
use Rattle.cat_model.specs.declared.value.Value.{Value}
use Rattle.cat_model.specs.Values.{Bytes, bytes_cmp, Named}
use Rattle.cat_model.specs.declared.holder.Holder.TheVariants.{Role as ROLE, Owner as OWNER}
use Rattle.cat_model.specs.Values.{holder_code, holder_cmp}
use Rattle.cat_model.specs.Grants.{owner_only, schema_rights, joined, join, without_option}
use Rattle.cat_model.specs.declared.grant.Owned.TheVariants as owned
use Rattle.cat_model.specs.ObjectEffects.{grants_joined}
use Rattle.cat_model.specs.Effects.{effect}
use Rattle.cat_model.specs.References.{is_system}
use Rattle.cat_model.specs.Conditions.{if_free, if_there, needs, check}
use Rattle.cat_model.specs.Trees.{Change, Tree, changed, run, after, outcome, sets, look, seen}
use Rattle.cat_model.specs.declared.constraint.Encoding.TheVariants as encoding
use Rattle.schema_folders.specs.declared.schemas.SchemaRow.{SchemaRow}
use Rattle.schema_folders.specs.Naming.{boot, boot_role, cluster, schema_changes, with_schemas, named, has_name}

-- the schema that an object is
abbrev pub schema_of : Object → Option Bytes
schema_of (object.Schema name) = Some name
schema_of _ = None

abbrev pub with_value : Value → Option Bytes → Option (Bytes × Value)
with_value v None = None
with_value v (Some name) = Some (name, v)

-- the schema that a key belongs to, with the value that it has there
abbrev pub part_of : Key → Option (Bytes × Value)
part_of (key.Schema name) = Some (name, value.Schema)
part_of (key.Owner o) = with_value (value.Owner boot) (schema_of o)
part_of (key.Acl o) = with_value (value.Grants (owner_only schema_rights)) (schema_of o)
part_of _ = None

-- what stands at a part once a test of its name has passed
abbrev pub stands : (Bytes → Bool) → Option (Bytes × Value) → Option Value → Option Value
stands has None before = before
stands has (Some part) before = cond (has part.0) (Some part.1) before

tie_of : (a b : Bytes) (o : Ordering) → o ≡ bytes_cmp a b → is_eq (ordering_then o Equal) ≡ is_eq o
tie_of a b Less e = refl
tie_of a b Equal e = refl
tie_of a b Greater e = refl

-- names tie in keys exactly where they tie
tie : (a b : Bytes) → is_eq (ordering_then (bytes_cmp a b) Equal) ≡ eq_by_cmp bytes_cmp b a
tie a b = tie_of a b (bytes_cmp a b) refl ∙ (eq_by_cmp_equiv nat_list_cmp_total).symm a b

by_tie : (a b : Bytes) (v : Value) (before : Option Value) → cond (is_eq (ordering_then (bytes_cmp a b) Equal)) (Some v) before ≡ cond (eq_by_cmp bytes_cmp b a) (Some v) before
by_tie a b v before = ap (λ t. cond t (Some v) before) (tie a b)

-- after the changes of a schema, at any key
three : (named : Named) (name : Bytes) (q : Key) → get (changed (schema_changes name) named) q
    ≡ cond (eq_by_cmp key_cmp q (key.Acl (object.Schema name))) (Some (value.Grants (owner_only schema_rights))) (cond (eq_by_cmp key_cmp q (key.Owner (object.Schema name))) (Some (value.Owner boot)) (cond (eq_by_cmp key_cmp q (key.Schema name)) (Some value.Schema) (get named q)))
three named name q =
    get-insert key_cmp_total _ _ _ q ∙ ap (λ x. cond (eq_by_cmp key_cmp q (key.Acl (object.Schema name))) (Some (value.Grants (owner_only schema_rights))) x)
    (get-insert key_cmp_total _ _ _ q ∙ ap (λ x. cond (eq_by_cmp key_cmp q (key.Owner (object.Schema name))) (Some (value.Owner boot)) x)
    (get-insert key_cmp_total named (key.Schema name) value.Schema q))

at_owner : (o : Object) (name : Bytes) (before : Option Value) → cond (eq_by_cmp key_cmp (key.Owner o) (key.Owner (object.Schema name))) (Some (value.Owner boot)) before ≡ stands (λ m. eq_by_cmp bytes_cmp name m) (with_value (value.Owner boot) (schema_of o)) before
at_owner (object.Schema m) name before = by_tie m name (value.Owner boot) before
at_owner (object.Type q) name before = refl
at_owner (object.Relation q) name before = refl
at_owner (object.Column q c) name before = refl
at_owner (object.Constraint q c) name before = refl
at_owner (object.Database d) name before = refl

at_acl : (o : Object) (name : Bytes) (before : Option Value) → cond (eq_by_cmp key_cmp (key.Acl o) (key.Acl (object.Schema name))) (Some (value.Grants (owner_only schema_rights))) before ≡ stands (λ m. eq_by_cmp bytes_cmp name m) (with_value (value.Grants (owner_only schema_rights)) (schema_of o)) before
at_acl (object.Schema m) name before = by_tie m name (value.Grants (owner_only schema_rights)) before
at_acl (object.Type q) name before = refl
at_acl (object.Relation q) name before = refl
at_acl (object.Column q c) name before = refl
at_acl (object.Constraint q c) name before = refl
at_acl (object.Database d) name before = refl

-- a schema's changes are seen at its own keys alone
one_schema : (named : Named) (name : Bytes) (q : Key) → get (changed (schema_changes name) named) q ≡ stands (λ m. eq_by_cmp bytes_cmp name m) (part_of q) (get named q)
one_schema named name (key.Schema m) = three named name (key.Schema m) ∙ by_tie m name value.Schema (get named (key.Schema m))
one_schema named name (key.Owner o) = three named name (key.Owner o) ∙ at_owner o name (get named (key.Owner o))
one_schema named name (key.Acl o) = three named name (key.Acl o) ∙ at_acl o name (get named (key.Acl o))
one_schema named name (key.Role a) = three named name (key.Role a)
one_schema named name (key.Member a b c) = three named name (key.Member a b c)
one_schema named name (key.UserType a) = three named name (key.UserType a)
one_schema named name (key.Rel a) = three named name (key.Rel a)
one_schema named name (key.Default a b) = three named name (key.Default a b)
one_schema named name (key.Con a b) = three named name (key.Con a b)
one_schema named name (key.Index a b) = three named name (key.Index a b)
one_schema named name (key.Rows a) = three named name (key.Rows a)
one_schema named name (key.SeqVal a) = three named name (key.SeqVal a)
one_schema named name (key.OwnedBy a) = three named name (key.OwnedBy a)
one_schema named name (key.Comment a) = three named name (key.Comment a)
one_schema named name (key.Body a) = three named name (key.Body a)
one_schema named name (key.Database a) = three named name (key.Database a)

either : (a b : Bool) (v : Option Value) (before : Option Value) → cond b v (cond a v before) ≡ cond (a || b) v before
either true true v before = refl
either true false v before = refl
either false true v before = refl
either false false v before = refl

one_more : (part : Option (Bytes × Value)) (row : SchemaRow) (rows : List SchemaRow) (before : Option Value) → stands (λ m. has_name m rows) part (stands (λ m. eq_by_cmp bytes_cmp row.name m) part before) ≡ stands (λ m. has_name m (row ∷ rows)) part before
one_more None row rows before = refl
one_more (Some part) row rows before = either (eq_by_cmp bytes_cmp row.name part.0) (has_name part.0 rows) (Some part.1) before

-- what rows of schemas make of a catalogue, at any key
pub get-with_schemas : (named : Named) (rows : List SchemaRow) (q : Key) → get (with_schemas named rows) q ≡ stands (λ m. has_name m rows) (part_of q) (get named q)
get-with_schemas named [] q = no_row (part_of q)
  where
    no_row : (part : Option (Bytes × Value)) → get named q ≡ stands (λ m. false) part (get named q)
    no_row None = refl
    no_row (Some part) = refl
get-with_schemas named (row ∷ rows) q =
    get-with_schemas (changed (schema_changes row.name) named) rows q
    ∙ ap (λ before. stands (λ m. has_name m rows) (part_of q) before) (one_schema named row.name q)
    ∙ one_more (part_of q) row rows (get named q)

pub same_stands : (f g : Bytes → Bool) → ((m : Bytes) → f m ≡ g m) → (part : Option (Bytes × Value)) (before : Option Value) → stands f part before ≡ stands g part before
same_stands f g h None before = refl
same_stands f g h (Some part) before = ap (λ b. cond b (Some part.1) before) (h part.0)

-- rows in another order stand for the same
pub named-IsPermutation : (xs ys : List SchemaRow) → IsPermutation xs ys → named xs ≡ named ys
named-IsPermutation xs ys h =
    same_map key_cmp_total key_cmp-IsAntisymmetric (named xs) (named ys) (λ q.
    get-with_schemas cluster xs q
    ∙ same_stands (λ m. has_name m xs) (λ m. has_name m ys) (λ m. list_any-IsPermutation (λ row. eq_by_cmp bytes_cmp row.name m) xs ys h) (part_of q) (get cluster q)
    ∙ sym (get-with_schemas cluster ys q))

-- ---- CREATE SCHEMA

pub with_schemas-append : (named : Named) (xs ys : List SchemaRow) → with_schemas named (xs ++ ys) ≡ with_schemas (with_schemas named xs) ys
with_schemas-append named [] ys = refl
with_schemas-append named (x ∷ xs) ys = with_schemas-append (changed (schema_changes x.name) named) xs ys

pub no_schema : (name : Bytes) → get cluster (key.Schema name) ≡ None
no_schema name =
    get-from_entries key_cmp_total ((key.Role boot, value.Role boot_role) ∷ (key.Database boot, value.Database encoding.Utf8) ∷ (key.Owner (object.Database boot), value.Owner boot) ∷ []) (key.Schema name)

there : (rows : List SchemaRow) (name : Bytes) → get (named rows) (key.Schema name) ≡ cond (has_name name rows) (Some value.Schema) None
there rows name = get-with_schemas cluster rows (key.Schema name) ∙ ap (λ x. cond (has_name name rows) (Some value.Schema) x) (no_schema name)

-- what CREATE SCHEMA says, by what it finds at the schema's key and by whether the name is the system's own
abbrev said : Bytes → Named → Option Value → Bool → Result Named Cause
said name named found system =
    after (outcome (if_free (key.Schema name) (check (not system) (cause.Exists (key.Schema name)) (sets (schema_changes name))) found) (seen named)) named

said-cases : (name : Bytes) (named : Named) (has system : Bool) (found : Option Value) → found ≡ cond has (Some value.Schema) None → said name named found system ≡ cond (has || system) (Err (cause.Exists (key.Schema name))) (Ok (changed (schema_changes name) named))
said-cases name named true system found e = ap (λ f. said name named f system) e
said-cases name named false true found e = ap (λ f. said name named f true) e
said-cases name named false false found e = ap (λ f. said name named f false) e

run-cases : (rows : List SchemaRow) (name : Bytes) → run (effect boot (stmt.CreateSchema name)) (named rows) ≡ cond (has_name name rows || is_system name) (Err (cause.Exists (key.Schema name))) (Ok (changed (schema_changes name) (named rows)))
run-cases rows name = said-cases name (named rows) (has_name name rows) (is_system name) (get (named rows) (key.Schema name)) (there rows name)

-- where a name is taken or is the system's own
pub run_refused : (rows : List SchemaRow) (name : Bytes) → (has_name name rows || is_system name) ≡ true → run (effect boot (stmt.CreateSchema name)) (named rows) ≡ Err (cause.Exists (key.Schema name))
run_refused rows name h =
    run-cases rows name ∙ ap (λ b. cond {A = Result Named Cause} b (Err (cause.Exists (key.Schema name))) (Ok (changed (schema_changes name) (named rows)))) h

-- where it is free
pub run_created : (rows : List SchemaRow) (name : Bytes) (oid : ℕ) → (has_name name rows || is_system name) ≡ false → run (effect boot (stmt.CreateSchema name)) (named rows) ≡ Ok (named (rows ++ record { oid = oid; name = name } ∷ []))
run_created rows name oid h =
    run-cases rows name ∙ ap (λ b. cond {A = Result Named Cause} b (Err (cause.Exists (key.Schema name))) (Ok (changed (schema_changes name) (named rows)))) h
    ∙ ap Ok (sym (with_schemas-append cluster rows (record { oid = oid; name = name } ∷ [])))

-- ---- ALTER SCHEMA .. OWNER TO

-- to put a value where it stands already changes nothing
insert_same : (named : Named) (k : Key) (v : Value) → get named k ≡ Some v → insert named k v ≡ named
insert_same named k v e = same_map key_cmp_total key_cmp-IsAntisymmetric _ _ (λ q. get-insert key_cmp_total named k v q ∙ back q (eq_by_cmp key_cmp q k) refl)
  where
    back : (q : Key) (b : Bool) → eq_by_cmp key_cmp q k ≡ b → cond b (Some v) (get named q) ≡ get named q
    back q true s = sym e ∙ ap (get named) (sym (key_eq-same q k s))
    back q false s = refl

holder_cmp_total : IsTotalOrder holder_cmp
holder_cmp_total = on_total holder_code (lists_total nat_list_cmp_total)

-- the boot role has no item of its own on a schema
joined_same : joined boot (owner_only schema_rights) ≡ owner_only schema_rights
joined_same = ap (λ item. join boot item (owner_only schema_rights)) (get-from_entries holder_cmp_total ((OWNER, without_option schema_rights) ∷ []) (ROLE boot))

-- what a change of the owner does behind its conditions
abbrev owner_changes : Bytes → Bytes → Option Value → List Change
owner_changes name role grants = (key.Owner (object.Schema name), Some (value.Owner role)) ∷ grants_joined (object.Schema name) role grants

role_there : (rows : List SchemaRow) (role : Bytes) → get (named rows) (key.Role role) ≡ cond (eq_by_cmp key_cmp (key.Role role) (key.Role boot)) (Some (value.Role boot_role)) None
role_there rows role =
    get-with_schemas cluster rows (key.Role role)
    ∙ get-from_entries key_cmp_total ((key.Role boot, value.Role boot_role) ∷ (key.Database boot, value.Database encoding.Utf8) ∷ (key.Owner (object.Database boot), value.Owner boot) ∷ []) (key.Role role)

role_of_key : (a b : Bytes) → key.Role a ≡ key.Role b → a ≡ b
role_of_key a b e = cc

owner_at : (rows : List SchemaRow) (name : Bytes) → has_name name rows ≡ true → get (named rows) (key.Owner (object.Schema name)) ≡ Some (value.Owner boot)
owner_at rows name h = get-with_schemas cluster rows (key.Owner (object.Schema name)) ∙ ap (λ b. cond b (Some (value.Owner boot)) (get cluster (key.Owner (object.Schema name)))) h

grants_at : (rows : List SchemaRow) (name : Bytes) → has_name name rows ≡ true → get (named rows) (key.Acl (object.Schema name)) ≡ Some (value.Grants (owner_only schema_rights))
grants_at rows name h = get-with_schemas cluster rows (key.Acl (object.Schema name)) ∙ ap (λ b. cond b (Some (value.Grants (owner_only schema_rights))) (get cluster (key.Acl (object.Schema name)))) h

-- the boot role owns each schema already
owner_kept : (rows : List SchemaRow) (name : Bytes) → has_name name rows ≡ true → changed (owner_changes name boot (get (named rows) (key.Acl (object.Schema name)))) (named rows) ≡ named rows
owner_kept rows name h =
    ap (λ found. changed (owner_changes name boot found) (named rows)) (grants_at rows name h)
    ∙ ap (λ grants. insert (insert (named rows) (key.Owner (object.Schema name)) (value.Owner boot)) (key.Acl (object.Schema name)) (value.Grants grants)) joined_same
    ∙ ap (λ m. insert m (key.Acl (object.Schema name)) (value.Grants (owner_only schema_rights))) (insert_same (named rows) (key.Owner (object.Schema name)) (value.Owner boot) (owner_at rows name h))
    ∙ insert_same (named rows) (key.Acl (object.Schema name)) (value.Grants (owner_only schema_rights)) (grants_at rows name h)

-- behind its conditions
abbrev owner_set : Bytes → Bytes → Tree
owner_set name role = look (key.Acl (object.Schema name)) (λ grants. sets (owner_changes name role grants))

-- what it says, by what it finds at the role's key, where the schema is there
abbrev said_role : Bytes → Bytes → Named → Option Value → Result Named Cause
said_role name role named found = after (outcome (if_there (key.Role role) (owner_set name role) found) (seen named)) named

-- what it says, by what it finds at the schema's key
abbrev said_owner : Bytes → Bytes → Named → Option Value → Result Named Cause
said_owner name role named found =
    after (outcome (if_there (key.Schema name) (needs (key.Role role) (owner_set name role)) found) (seen named)) named

schema_found : (rows : List SchemaRow) (name role : Bytes) (has : Bool) → has_name name rows ≡ has → run (effect boot (stmt.OwnerTo (owned.Schema name) role)) (named rows) ≡ said_owner name role (named rows) (cond has (Some value.Schema) None)
schema_found rows name role has h =
    ap (λ found. said_owner name role (named rows) found) (there rows name ∙ ap (λ b. cond b (Some value.Schema) None) h)

-- where the schema isn't there
pub run_no_schema : (rows : List SchemaRow) (name role : Bytes) → has_name name rows ≡ false → run (effect boot (stmt.OwnerTo (owned.Schema name) role)) (named rows) ≡ Err (cause.Absent (key.Schema name))
run_no_schema rows name role h = schema_found rows name role false h

-- where the role isn't there
pub run_no_role : (rows : List SchemaRow) (name role : Bytes) → has_name name rows ≡ true → role ≢ boot → run (effect boot (stmt.OwnerTo (owned.Schema name) role)) (named rows) ≡ Err (cause.Absent (key.Role role))
run_no_role rows name role h other =
    schema_found rows name role true h
    ∙ ap (λ found. said_role name role (named rows) found)
    (role_there rows role ∙ ap (λ b. cond b (Some (value.Role boot_role)) None) (false_from_ne_true (eq_by_cmp key_cmp (key.Role role) (key.Role boot)) (λ s. other (role_of_key role boot (key_eq-same (key.Role role) (key.Role boot) s)))))

-- where both are there
pub run_owned : (rows : List SchemaRow) (name role : Bytes) → has_name name rows ≡ true → role ≡ boot → run (effect boot (stmt.OwnerTo (owned.Schema name) role)) (named rows) ≡ Ok (named rows)
run_owned rows name role h same =
    schema_found rows name role true h
    ∙ ap (λ r. said_role name r (named rows) (get (named rows) (key.Role r))) same
    ∙ ap (λ found. said_role name boot (named rows) found) (role_there rows boot)
    ∙ ap Ok (owner_kept rows name h)
