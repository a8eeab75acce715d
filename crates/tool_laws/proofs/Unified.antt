-- What a catalogue of schemas stands for by all its tables is what its rows stand for.
use Rattle.std.proofs.Common.{◌≡◌, Bool, true, false, cond, ◌||◌, List, [], ◌∷◌, ◌++◌, map, Option, Some, None, refl, sym, ap, ◌∙◌, append-nil}
use Rattle.std.specs.declared.cmp.Ordering.{Ordering}
use Rattle.std.specs.declared.cmp.Ordering.TheVariants.{Less, Equal, Greater}
use Rattle.std.specs.Ordering.{eq_by_cmp, is_eq, ordering_then}
use Rattle.std.specs.Cmp.{eq_by_cmp_equiv}
use Rattle.std.specs.Cmp.Lexicographic.{nat_list_cmp_total}
use Rattle.std.specs.FinMap.{same_map, get-from_entries}
use Rattle.std.specs.FinMap.Entries.{find}
use Rattle.std.specs.List.{flat_map}
use Rattle.std.proofs.lemmas.List.Concat.{flat_map-cons}
use Rattle.cat_model.specs.declared.constraint.Encoding.TheVariants as encoding
use Rattle.cat_model.specs.declared.object.Object.{Object}
use Rattle.cat_model.specs.declared.object.Object.TheVariants as object
use Rattle.cat_model.specs.declared.key.Key.{Key}
use Rattle.cat_model.specs.declared.key.Key.TheVariants as key
use Rattle.cat_model.specs.Keys.{key_cmp}
use Rattle.cat_model.specs.KeyLaws.{key_cmp_total, key_cmp-IsAntisymmetric}
use Rattle.cat_model.specs.Grants.{owner_only, schema_rights}
use Rattle.cat_model.specs.declared.value.Value.TheVariants as value
use Rattle.cat_model.specs.declared.value.Value.{Value}
use Rattle.cat_model.specs.Values.{Bytes, bytes_cmp}
use Rattle.cat_names.specs.Grants.{grants_of}
use Rattle.cat_names.specs.Lookups.{role_name}
use Rattle.cat_names.specs.Naming.{Entry, schema_entries}
use Rattle.cat_naming.specs.Entries.{entries_of, catalogue_named}
use Rattle.cat_naming.specs.Relations.{RowsByOid}
use Rattle.schema_folders.specs.declared.schemas.SchemaRow.{SchemaRow}
use Rattle.schema_folders.specs.Folder.{boot_row, namespace_row, schemas_alone}
use Rattle.schema_folders.specs.Naming.{boot, boot_role, cluster, named, has_name}
use Rattle.schema_folders.proofs.Named.{with_value, schema_of, part_of, stands, get-with_schemas}

-- ---- the entries

-- what a schema gives
abbrev three : Bytes → List Entry
three name = (key.Schema name, value.Schema) ∷ (key.Owner (object.Schema name), value.Owner boot) ∷ (key.Acl (object.Schema name), value.Grants (owner_only schema_rights)) ∷ []

abbrev threes : List SchemaRow → List Entry
threes [] = []
threes (row ∷ rows) = three row.name ++ threes rows

of_row : (row : SchemaRow) → schema_entries (boot_row ∷ []) (namespace_row row) ≡ three row.name
unfolding role_name grants_of
of_row row = refl

of_rows : (rows : List SchemaRow) → flat_map (schema_entries (boot_row ∷ [])) (map namespace_row rows) ≡ threes rows
of_rows [] = refl
of_rows (row ∷ rows) =
    flat_map-cons (schema_entries (boot_row ∷ [])) (namespace_row row) (map namespace_row rows)
    ∙ ap (λ (es : List Entry). es ++ flat_map (schema_entries (boot_row ∷ [])) (map namespace_row rows)) (of_row row)
    ∙ ap (λ (es : List Entry). three row.name ++ es) (of_rows rows)

-- what the one role and the one database give
abbrev heads : List Entry
heads = (key.Role boot, value.Role boot_role) ∷ (key.Database boot, value.Database encoding.Utf8) ∷ (key.Owner (object.Database boot), value.Owner boot) ∷ []

all_entries : (rows : List SchemaRow) (texts : RowsByOid) → entries_of (schemas_alone rows) texts ≡ heads ++ threes rows
unfolding role_name
all_entries rows texts =
    ap (λ (es : List Entry). heads ++ es) (append-nil (flat_map (schema_entries (boot_row ∷ [])) (map namespace_row rows)) ∙ of_rows rows)

-- ---- what they give at a key

tie_of : (a b : Bytes) (o : Ordering) → o ≡ bytes_cmp a b → is_eq (ordering_then o Equal) ≡ is_eq o
tie_of a b Less e = refl
tie_of a b Equal e = refl
tie_of a b Greater e = refl

tied : (a b : Bytes) (v : Value) (before : Option Value) → cond (is_eq (ordering_then (bytes_cmp a b) Equal)) (Some v) before ≡ cond (eq_by_cmp bytes_cmp b a) (Some v) before
tied a b v before = ap (λ t. cond t (Some v) before) (tie_of a b (bytes_cmp a b) refl ∙ (eq_by_cmp_equiv nat_list_cmp_total).symm a b)

at_owner : (o : Object) (name : Bytes) (before : Option Value) → cond (eq_by_cmp key_cmp (key.Owner o) (key.Owner (object.Schema name))) (Some (value.Owner boot)) before ≡ stands (λ m. eq_by_cmp bytes_cmp name m) (with_value (value.Owner boot) (schema_of o)) before
at_owner (object.Schema m) name before = tied m name (value.Owner boot) before
at_owner (object.Type q) name before = refl
at_owner (object.Relation q) name before = refl
at_owner (object.Column q c) name before = refl
at_owner (object.Constraint q c) name before = refl
at_owner (object.Database d) name before = refl

at_acl : (o : Object) (name : Bytes) (before : Option Value) → cond (eq_by_cmp key_cmp (key.Acl o) (key.Acl (object.Schema name))) (Some (value.Grants (owner_only schema_rights))) before ≡ stands (λ m. eq_by_cmp bytes_cmp name m) (with_value (value.Grants (owner_only schema_rights)) (schema_of o)) before
at_acl (object.Schema m) name before = tied m name (value.Grants (owner_only schema_rights)) before
at_acl (object.Type q) name before = refl
at_acl (object.Relation q) name before = refl
at_acl (object.Column q c) name before = refl
at_acl (object.Constraint q c) name before = refl
at_acl (object.Database d) name before = refl

-- the entries of a schema before others
abbrev before_others : Bytes → Key → Option Value → Option Value
before_others name q others =
    cond (eq_by_cmp key_cmp q (key.Schema name)) (Some value.Schema)
    (cond (eq_by_cmp key_cmp q (key.Owner (object.Schema name))) (Some (value.Owner boot))
    (cond (eq_by_cmp key_cmp q (key.Acl (object.Schema name))) (Some (value.Grants (owner_only schema_rights))) others))

one : (name : Bytes) (q : Key) (others : Option Value) → before_others name q others ≡ stands (λ m. eq_by_cmp bytes_cmp name m) (part_of q) others
one name (key.Schema m) others = tied m name value.Schema others
one name (key.Owner o) others = at_owner o name others
one name (key.Acl o) others = at_acl o name others
one name (key.Role a) others = refl
one name (key.Member a b c) others = refl
one name (key.UserType a) others = refl
one name (key.Rel a) others = refl
one name (key.Default a b) others = refl
one name (key.Con a b) others = refl
one name (key.Index a b) others = refl
one name (key.Rows a) others = refl
one name (key.SeqVal a) others = refl
one name (key.OwnedBy a) others = refl
one name (key.Comment a) others = refl
one name (key.Body a) others = refl
one name (key.Database a) others = refl

either : (a b : Bool) (v : Option Value) → cond a v (cond b v None) ≡ cond (a || b) v None
either true b v = refl
either false b v = refl

more : (part : Option (Bytes × Value)) (row : SchemaRow) (rows : List SchemaRow) → stands (λ m. eq_by_cmp bytes_cmp row.name m) part (stands (λ m. has_name m rows) part None) ≡ stands (λ m. has_name m (row ∷ rows)) part None
more None row rows = refl
more (Some part) row rows = either (eq_by_cmp bytes_cmp row.name part.0) (has_name part.0 rows) (Some part.1)

nothing : (part : Option (Bytes × Value)) → None ≡ stands (λ m. false) part None
nothing None = refl
nothing (Some part) = refl

found : (rows : List SchemaRow) (q : Key) → find key_cmp q (threes rows) ≡ stands (λ m. has_name m rows) (part_of q) None
found [] q = nothing (part_of q)
found (row ∷ rows) q =
    ap (before_others row.name q) (found rows q)
    ∙ one row.name q (stands (λ m. has_name m rows) (part_of q) None)
    ∙ more (part_of q) row rows

-- the entries of the role and of the database before others
abbrev behind_heads : Key → Option Value → Option Value
behind_heads q others =
    cond (eq_by_cmp key_cmp q (key.Role boot)) (Some (value.Role boot_role))
    (cond (eq_by_cmp key_cmp q (key.Database boot)) (Some (value.Database encoding.Utf8))
    (cond (eq_by_cmp key_cmp q (key.Owner (object.Database boot))) (Some (value.Owner boot)) others))

at_heads : (has : Bytes → Bool) (q : Key) → behind_heads q (stands has (part_of q) None) ≡ stands has (part_of q) (behind_heads q None)
at_heads has (key.Schema m) = refl
at_heads has (key.Owner (object.Schema m)) = refl
at_heads has (key.Owner (object.Type a)) = refl
at_heads has (key.Owner (object.Relation a)) = refl
at_heads has (key.Owner (object.Column a b)) = refl
at_heads has (key.Owner (object.Constraint a b)) = refl
at_heads has (key.Owner (object.Database a)) = refl
at_heads has (key.Acl (object.Schema m)) = refl
at_heads has (key.Acl (object.Type a)) = refl
at_heads has (key.Acl (object.Relation a)) = refl
at_heads has (key.Acl (object.Column a b)) = refl
at_heads has (key.Acl (object.Constraint a b)) = refl
at_heads has (key.Acl (object.Database a)) = refl
at_heads has (key.Role a) = refl
at_heads has (key.Member a b c) = refl
at_heads has (key.UserType a) = refl
at_heads has (key.Rel a) = refl
at_heads has (key.Default a b) = refl
at_heads has (key.Con a b) = refl
at_heads has (key.Index a b) = refl
at_heads has (key.Rows a) = refl
at_heads has (key.SeqVal a) = refl
at_heads has (key.OwnedBy a) = refl
at_heads has (key.Comment a) = refl
at_heads has (key.Body a) = refl
at_heads has (key.Database a) = refl

-- ---- both are the same map

pub same_names : (rows : List SchemaRow) (texts : RowsByOid) → catalogue_named (schemas_alone rows) texts ≡ named rows
same_names rows texts =
    same_map key_cmp_total key_cmp-IsAntisymmetric (catalogue_named (schemas_alone rows) texts) (named rows) (λ q.
    get-from_entries key_cmp_total (entries_of (schemas_alone rows) texts) q
    ∙ ap (λ (es : List Entry). find key_cmp q es) (all_entries rows texts)
    ∙ ap (behind_heads q) (found rows q)
    ∙ at_heads (λ m. has_name m rows) q
    ∙ sym (get-with_schemas cluster rows q ∙ ap (stands (λ m. has_name m rows) (part_of q)) (get-from_entries key_cmp_total heads q)))
