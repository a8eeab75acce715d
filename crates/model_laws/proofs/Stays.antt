-- Each statement but COPY stays within its footprint.
use Rattle.std.proofs.Common.{◌≡◌, Bool, true, false, ◌&&◌, cond, List, [], ◌∷◌, ◌++◌, map, Option, Some, None, refl, ap, sym, subst, ◌∙◌, inl, inr, rules}
use Rattle.std.specs.Prelude.{◌⊎◌, ℕ, ℤ, not}
use Rattle.std.specs.List.{flat_map}
use Rattle.std.specs.Option.{option_map, unwrap_or}
use Rattle.cat_model.specs.declared.object.QName.{QName}
use Rattle.cat_model.specs.declared.object.Object.{Object}
use Rattle.cat_model.specs.declared.object.Object.TheVariants as object
use Rattle.cat_model.specs.declared.key.Key.{Key}
use Rattle.cat_model.specs.declared.key.Key.TheVariants as key
use Rattle.cat_model.specs.declared.class.Class.TheVariants as class
use Rattle.cat_model.specs.declared.class.Mark.{Mark}
use Rattle.cat_model.specs.declared.class.Mark.TheVariants as mark
use Rattle.cat_model.specs.declared.footprint.Footprint.{Footprint}
use Rattle.cat_model.specs.declared.constraint.ConstraintKind.TheVariants as kinds
use Rattle.cat_model.specs.declared.constraint.SequenceKind.{SequenceKind}
use Rattle.cat_model.specs.declared.constraint.Encoding.{Encoding}
use Rattle.cat_model.specs.declared.grant.Owned.{Owned}
use Rattle.cat_model.specs.declared.grant.Owned.TheVariants as owned
use Rattle.cat_model.specs.declared.grant.Granted.{Granted}
use Rattle.cat_model.specs.declared.grant.Granted.TheVariants as on
use Rattle.cat_model.specs.declared.grant.Commented.{Commented}
use Rattle.cat_model.specs.declared.grant.Commented.TheVariants as commented
use Rattle.cat_model.specs.declared.grant.Grantee.{Grantee}
use Rattle.cat_model.specs.declared.grant.Rights.{Rights}
use Rattle.cat_model.specs.declared.grant.Grantee.TheVariants as grantee
use Rattle.cat_model.specs.declared.type_name.TypeName.{TypeName}
use Rattle.cat_model.specs.declared.type_name.TypeName.TheVariants.{Words, Path}
use Rattle.cat_model.specs.declared.table.ColumnDef.{ColumnDef}
use Rattle.cat_model.specs.declared.table.CheckDef.{CheckDef}
use Rattle.cat_model.specs.declared.table.RoleChanges.{RoleChanges}
use Rattle.cat_model.specs.declared.cause.Cause.TheVariants as cause
use Rattle.cat_model.specs.declared.stmt.Stmt.{Stmt}
use Rattle.cat_model.specs.declared.stmt.Stmt.TheVariants as stmt
use Rattle.cat_model.specs.declared.value.Value.TheVariants as value
use Rattle.cat_model.specs.declared.value.Value.{Value}
use Rattle.cat_model.specs.declared.value.Column.{Column}
use Rattle.cat_model.specs.declared.value.Sequence.{Sequence}
use Rattle.cat_model.specs.declared.value.Domain.{Domain}
use Rattle.cat_model.specs.declared.value.Role.{Role}
use Rattle.cat_model.specs.declared.value.Membership.{Membership}
use Rattle.cat_model.specs.declared.value.Resolved.{Resolved}
use Rattle.cat_model.specs.declared.holder.Holder.{Holder}
use Rattle.cat_model.specs.declared.value.Index.{Index}
use Rattle.cat_model.specs.Values.{Bytes, Named, Row, Grants}
use Rattle.cat_model.specs.Lexemes.{same_text}
use Rattle.cat_model.specs.Grants.{granted, revoked, holder_of, joined, owner_only, type_grants, schema_rights, table_rights, sequence_rights}
use Rattle.cat_model.specs.Tables.{distinct, columns_there, column_there, null_in, repeated, orphan}
use Rattle.cat_model.specs.References.{is_system, expression_references, view_references}
use Rattle.cat_model.specs.IndexColumns.{plain_columns}
use Rattle.cat_model.specs.Trees.{Change, Tree, refuse, sets, look, scan, Seen, unique_on}
use Rattle.cat_model.specs.Marks.{Among, Covers, IsCovered, AllCovered, IsWithin}
use Rattle.cat_model.specs.Footprints.{marks, type_reads, column_reads, default_mark, default_writes, grantee_reads, grantor_reads, row_reads, granted_key, owned_key, commented_key, footprint_of}
use Rattle.cat_model.specs.Conditions.{needs, needs_each, needs_kind, needs_table, needs_sequence, needs_domain, needs_role, free, check, is_view}
use Rattle.cat_model.specs.ObjectEffects.{made, create_schema, owner_to, needs_owned, owned_object, grants_joined, change_grants, needs_granted, granted_object, needs_grantee, owner_in, grants_changed, comment_on, needs_commented, commented_object}
use Rattle.cat_model.specs.RoleEffects.{create_role, alter_role, grant_role, create_database, needs_grantor}
use Rattle.cat_model.specs.TypeEffects.{create_enum, create_domain, add_domain_check, needs_type, if_type, as_it_is, but, default_references, check_references}
use Rattle.cat_model.specs.RelationEffects.{create_table, needs_columns, default_set, check_value, set_default, create_sequence, owned_by, set_value, create_view, replace_view}
use Rattle.cat_model.specs.KeyEffects.{add_primary, add_unique, add_foreign, add_check, create_index, create_unique_index, index_path, index_made, unique_rows, rows_in, has_key, no_primary}
use Rattle.cat_model.proofs.MarkLaws.{both_true, same_text-self}
use Rattle.model_laws.proofs.Steps.{Stays, Covered, nothing, more, stays-sets, stays-scan, stays-look, stays-check, stays-needs, stays-each, stays-free, stays-kind, stays-table, stays-sequence, stays-domain, stays-role, stays-repeated, stays-null, stays-orphan, stays-no_primary, stays-has_key, covered-append, among-left, among-right}

-- ---- changes by their keys' marks

covers-among : (reads ms : List Mark) (k : Key) (old new : Option Value) → Among ms (mark.Key k) → IsCovered reads ms k old new
covers-among reads [] k old new h = elim h [ ]
covers-among reads (m ∷ ms) k old new (inl e) = inl (subst (λ (n : Mark). Covers reads n k old new) (sym e) refl)
covers-among reads (m ∷ ms) k old new (inr h) = inr (covers-among reads ms k old new h)

-- a new object's changes, where the writes begin with its marks
new-object : (f : Footprint) (s : Seen) (k : Key) (o : Object) (boot : Bytes) (grants : Grants) (v : Value) → Among f.writes (mark.Key k) → Among f.writes (mark.Key (key.Owner o)) → Among f.writes (mark.Key (key.Acl o)) → Covered f s ((k, Some v) ∷ made o boot grants)
new-object f s k o boot grants v a b c =
    more f s k (Some v) (covers-among f.reads f.writes k (s.at k) (Some v) a)
    (more f s (key.Owner o) (Some (value.Owner boot)) (covers-among f.reads f.writes (key.Owner o) (s.at (key.Owner o)) (Some (value.Owner boot)) b)
    (more f s (key.Acl o) (Some (value.Grants grants)) (covers-among f.reads f.writes (key.Acl o) (s.at (key.Acl o)) (Some (value.Grants grants)) c)
    nothing))

-- the same with another key of the object between
new-object-and : (f : Footprint) (s : Seen) (k j : Key) (o : Object) (boot : Bytes) (grants : Grants) (v w : Value) → Among f.writes (mark.Key k) → Among f.writes (mark.Key (key.Owner o)) → Among f.writes (mark.Key (key.Acl o)) → Among f.writes (mark.Key j) → Covered f s ((k, Some v) ∷ (j, Some w) ∷ made o boot grants)
new-object-and f s k j o boot grants v w a b c d =
    more f s k (Some v) (covers-among f.reads f.writes k (s.at k) (Some v) a)
    (new-object f s j o boot grants w d b c)

-- ---- objects

pub schema-stays : (s : Seen) (ps : List (QName × QName)) (boot name : Bytes) → Stays (footprint_of (stmt.CreateSchema name) ps) s (create_schema boot name)
schema-stays s ps boot name =
    let f = footprint_of (stmt.CreateSchema name) ps in
    stays-free (key.Schema name) (inl refl) (λ _.
    stays-check (not (is_system name)) (cause.Exists (key.Schema name))
    (stays-sets (new-object f s (key.Schema name) (object.Schema name) boot (owner_only schema_rights) value.Schema (inl refl) (inr (inl refl)) (inr (inr (inl refl))))))

owned-stays : (f : Footprint) (s : Seen) (what : Owned) (next : Tree) → Among f.reads (mark.Key (owned_key what)) → Stays f s next → Stays f s (needs_owned what next)
owned-stays f s (owned.Schema name) next read h = stays-needs (key.Schema name) read h
owned-stays f s (owned.Type q) next read h = stays-kind _ (key.UserType q) read h
owned-stays f s (owned.Domain q) next read h = stays-kind _ (key.UserType q) read h
owned-stays f s (owned.Table q) next read h = stays-kind _ (key.Rel q) read h
owned-stays f s (owned.Sequence q) next read h = stays-kind _ (key.Rel q) read h
owned-stays f s (owned.View q) next read h = stays-kind _ (key.Rel q) read h
owned-stays f s (owned.Database name) next read h = stays-needs (key.Database name) read h

joined-covered : (f : Footprint) (s : Seen) (o : Object) (role : Bytes) (v : Option Value) → Among f.writes (mark.Key (key.Acl o)) → Covered f s (grants_joined o role v)
joined-covered f s o role (Some (value.Grants g)) h = more f s (key.Acl o) _ (covers-among f.reads f.writes (key.Acl o) (s.at (key.Acl o)) (Some (value.Grants (joined role g))) h) nothing
joined-covered f s o role (Some _) h = nothing
joined-covered f s o role None h = nothing

pub owner-stays : (s : Seen) (ps : List (QName × QName)) (what : Owned) (role : Bytes) → Stays (footprint_of (stmt.OwnerTo what role) ps) s (owner_to what role)
owner-stays s ps what role =
    let f = footprint_of (stmt.OwnerTo what role) ps in
    owned-stays f s what _ (inl refl)
    (stays-needs (key.Role role) (inr (inl refl))
    (stays-look {k = key.Acl (owned_object what)} (inr (inr (inl refl))) (λ v.
    stays-sets (more f s (key.Owner (owned_object what)) (Some (value.Owner role)) (inl refl) (joined-covered f s (owned_object what) role v (inr (inl refl)))))))

granted-stays : (f : Footprint) (s : Seen) (what : Granted) (next : Tree) → Among f.reads (mark.Key (granted_key what)) → Stays f s next → Stays f s (needs_granted what next)
granted-stays f s (on.Table q) next read h = stays-kind _ (key.Rel q) read h
granted-stays f s (on.Sequence q) next read h = stays-kind _ (key.Rel q) read h
granted-stays f s (on.Schema name) next read h = stays-needs (key.Schema name) read h
granted-stays f s (on.Type q) next read h = stays-kind _ (key.UserType q) read h

grantee-stays : (f : Footprint) (s : Seen) (who : Grantee) (next : Tree) → ((m : Mark) → Among (grantee_reads who) m → Among f.reads m) → Stays f s next → Stays f s (needs_grantee who next)
grantee-stays f s grantee.Public next read h = h
grantee-stays f s (grantee.Role name) next read h = stays-needs (key.Role name) (read (mark.Key (key.Role name)) (inl refl)) h

changed-covered : (f : Footprint) (s : Seen) (o : Object) (change : Grants → Grants) (v : Option Value) → Among f.writes (mark.Key (key.Acl o)) → Covered f s (grants_changed o change v)
changed-covered f s o change (Some (value.Grants g)) h = more f s (key.Acl o) _ (covers-among f.reads f.writes (key.Acl o) (s.at (key.Acl o)) (Some (value.Grants (change g))) h) nothing
changed-covered f s o change (Some _) h = nothing
changed-covered f s o change None h = nothing

-- the reads and writes of GRANT, which are those of REVOKE
grants-stay : (f : Footprint) (s : Seen) (what : Granted) (who : Grantee) (change : Holder → Grants → Grants) → Among f.reads (mark.Key (granted_key what)) → Among f.reads (mark.Key (key.Owner (granted_object what))) → Among f.reads (mark.Key (key.Acl (granted_object what))) → ((m : Mark) → Among (grantee_reads who) m → Among f.reads m) → Among f.writes (mark.Key (key.Acl (granted_object what))) → Stays f s (change_grants what who change)
grants-stay f s what who change a b c d e =
    granted-stays f s what _ a
    (grantee-stays f s who _ d
    (stays-look {k = key.Owner (granted_object what)} b (λ owner.
    stays-look {k = key.Acl (granted_object what)} c (λ v.
    stays-sets (changed-covered f s (granted_object what) (change (holder_of (owner_in owner) who)) v e)))))

pub grant-stays : (s : Seen) (ps : List (QName × QName)) (what : Granted) (rights : Rights) (who : Grantee) (option : Bool) → Stays (footprint_of (stmt.Grant what rights who option) ps) s (change_grants what who (granted rights option))
grant-stays s ps what rights who option =
    grants-stay (footprint_of (stmt.Grant what rights who option) ps) s what who (granted rights option) (inl refl) (inr (inl refl)) (inr (inr (inl refl))) (λ m h. inr (inr (inr h))) (inl refl)

pub revoke-stays : (s : Seen) (ps : List (QName × QName)) (what : Granted) (rights : Rights) (who : Grantee) → Stays (footprint_of (stmt.Revoke what rights who) ps) s (change_grants what who (revoked rights))
revoke-stays s ps what rights who =
    grants-stay (footprint_of (stmt.Revoke what rights who) ps) s what who (revoked rights) (inl refl) (inr (inl refl)) (inr (inr (inl refl))) (λ m h. inr (inr (inr h))) (inl refl)

commented-stays : (f : Footprint) (s : Seen) (what : Commented) (next : Tree) → Among f.reads (mark.Key (commented_key what)) → Stays f s next → Stays f s (needs_commented what next)
commented-stays f s (commented.Schema name) next read h = stays-needs (key.Schema name) read h
commented-stays f s (commented.Type q) next read h = stays-kind _ (key.UserType q) read h
commented-stays f s (commented.Domain q) next read h = stays-kind _ (key.UserType q) read h
commented-stays f s (commented.Table q) next read h = stays-kind _ (key.Rel q) read h
commented-stays f s (commented.View q) next read h = stays-kind _ (key.Rel q) read h
commented-stays f s (commented.Sequence q) next read h = stays-kind _ (key.Rel q) read h
commented-stays f s (commented.Index q) next read h = stays-kind _ (key.Rel q) read h
commented-stays f s (commented.Column q column) next read h = stays-table q read (λ columns. stays-check (column_there columns column) cause.WrongColumns h)
commented-stays f s (commented.Constraint q name) next read h = stays-needs (key.Con q name) read h

pub comment-stays : (s : Seen) (ps : List (QName × QName)) (what : Commented) (text : Option Bytes) → Stays (footprint_of (stmt.Comment what text) ps) s (comment_on what text)
comment-stays s ps what text =
    let f = footprint_of (stmt.Comment what text) ps in
    commented-stays f s what _ (inl refl) (stays-sets (more f s (key.Comment (commented_object what)) (option_map value.Comment text) (inl refl) nothing))

-- ---- roles and databases

pub role-stays : (s : Seen) (ps : List (QName × QName)) (name : Bytes) → Stays (footprint_of (stmt.CreateRole name) ps) s (create_role name)
role-stays s ps name =
    let f = footprint_of (stmt.CreateRole name) ps in
    stays-free (key.Role name) (inl refl) (λ _. stays-check _ _ (stays-sets (more f s (key.Role name) _ (inl refl) nothing)))

pub alter-stays : (s : Seen) (ps : List (QName × QName)) (name : Bytes) (changes : RoleChanges) → Stays (footprint_of (stmt.AlterRole name changes) ps) s (alter_role name changes)
alter-stays s ps name changes =
    let f = footprint_of (stmt.AlterRole name changes) ps in
    stays-role name (inl refl) (λ r. stays-sets (more f s (key.Role name) _ (inl refl) nothing))

grantor-stays : (f : Footprint) (s : Seen) (who : Option Bytes) (next : Tree) → ((m : Mark) → Among (grantor_reads who) m → Among f.reads m) → Stays f s next → Stays f s (needs_grantor who next)
grantor-stays f s None next read h = h
grantor-stays f s (Some name) next read h = stays-needs (key.Role name) (read (mark.Key (key.Role name)) (inl refl)) h

pub member-stays : (s : Seen) (ps : List (QName × QName)) (boot role member : Bytes) (grantor : Option Bytes) (admin : Bool) (inherit : Option Bool) (may_set : Bool) → Stays (footprint_of (stmt.GrantRole role member grantor admin inherit may_set) ps) s (grant_role boot role member grantor admin inherit may_set)
member-stays s ps boot role member grantor admin inherit may_set =
    let f = footprint_of (stmt.GrantRole role member grantor admin inherit may_set) ps in
    stays-needs (key.Role role) (inl refl)
    (stays-role member (inr (inl refl)) (λ r.
    grantor-stays f s grantor _ (λ m h. inr (inr (inr h)))
    (stays-sets (more f s (key.Member role member (unwrap_or grantor boot)) _ (inl (refl, both_true (same_text role role) (same_text member member) (same_text-self role) (same_text-self member))) nothing))))

pub database-stays : (s : Seen) (ps : List (QName × QName)) (boot name : Bytes) (encoding : Option Encoding) → Stays (footprint_of (stmt.CreateDatabase name encoding) ps) s (create_database boot name)
database-stays s ps boot name encoding =
    let f = footprint_of (stmt.CreateDatabase name encoding) ps in
    stays-free (key.Database name) (inl refl) (λ _. stays-sets (more f s (key.Database name) _ (inl refl) (more f s (key.Owner (object.Database name)) _ (inr (inl refl)) nothing)))

-- ---- types

pub enum-stays : (s : Seen) (ps : List (QName × QName)) (boot : Bytes) (q : QName) (labels : List Bytes) → Stays (footprint_of (stmt.CreateEnum q labels) ps) s (create_enum boot q labels)
enum-stays s ps boot q labels =
    let f = footprint_of (stmt.CreateEnum q labels) ps in
    stays-needs (key.Schema q.schema) (inl refl)
    (stays-free (key.UserType q) (inr (inl refl)) (λ _.
    stays-check (distinct labels) (cause.Exists (key.UserType q))
    (stays-sets (new-object f s (key.UserType q) (object.Type q) boot type_grants (value.Enum labels) (inl refl) (inr (inl refl)) (inr (inr (inl refl)))))))

if-type : (f : Footprint) (s : Seen) (q : QName) (next : Resolved → Tree) (v : Option Value) → ((r : Resolved) → Stays f s (next r)) → Stays f s (if_type q next v)
if-type f s q next (Some (value.Enum labels)) h = h _
if-type f s q next (Some (value.Domain d)) h = h _
if-type f s q next (Some _) h = record { is = tt }
if-type f s q next None h = record { is = tt }

path-stays : (f : Footprint) (s : Seen) (q : QName) (next : Resolved → Tree) (b : Bool) → ((m : Mark) → Among (cond b [] (mark.Key (key.UserType q) ∷ [])) m → Among f.reads m) → ((r : Resolved) → Stays f s (next r)) → Stays f s (cond b (next (as_it_is (Path q))) (look (key.UserType q) (if_type q next)))
path-stays f s q next true read h = h (as_it_is (Path q))
path-stays f s q next false read h = stays-look {k = key.UserType q} (read (mark.Key (key.UserType q)) (inl refl)) (λ v. if-type f s q next v h)

type-stays : (f : Footprint) (s : Seen) (type : TypeName) (next : Resolved → Tree) → ((m : Mark) → Among (type_reads type) m → Among f.reads m) → ((r : Resolved) → Stays f s (next r)) → Stays f s (needs_type type next)
type-stays f s (Words text) next read h = h (as_it_is (Words text))
type-stays f s (Path q) next read h = path-stays f s q next (is_system q.schema) read h

pub domain-stays : (s : Seen) (ps : List (QName × QName)) (boot : Bytes) (q : QName) (base : TypeName) (not_null : Bool) (default : Option Bytes) (checks : List CheckDef) → Stays (footprint_of (stmt.CreateDomain q base not_null default checks) ps) s (create_domain boot q base not_null default checks)
domain-stays s ps boot q base not_null default checks =
    let f = footprint_of (stmt.CreateDomain q base not_null default checks) ps in
    let of_base = type_reads base in
    let of_default = marks (default_references default) in
    let of_checks = marks (but (key.UserType q) (check_references checks)) in
    stays-needs (key.Schema q.schema) (inl refl)
    (stays-free (key.UserType q) (inr (inl refl)) (λ _.
    stays-check (distinct (map (λ c. c.name) checks)) (cause.Exists (key.UserType q))
    (type-stays f s base _ (λ m h. inr (inr (among-left (of_base ++ of_default) of_checks m (among-left of_base of_default m h)))) (λ r.
    stays-each (default_references default) (λ m h. inr (inr (among-left (of_base ++ of_default) of_checks m (among-right of_base of_default m h))))
    (stays-each (but (key.UserType q) (check_references checks)) (λ m h. inr (inr (among-right (of_base ++ of_default) of_checks m h)))
    (stays-sets (new-object f s (key.UserType q) (object.Type q) boot type_grants _ (inl refl) (inr (inl refl)) (inr (inr (inl refl))))))))))

pub domain_check-stays : (s : Seen) (ps : List (QName × QName)) (q : QName) (name text : Bytes) → Stays (footprint_of (stmt.AddDomainCheck q name text) ps) s (add_domain_check q name text)
domain_check-stays s ps q name text =
    let f = footprint_of (stmt.AddDomainCheck q name text) ps in
    stays-domain q (inl refl) (λ d.
    stays-check _ _
    (stays-each (expression_references text) (λ m h. inr h)
    (stays-sets (more f s (key.UserType q) _ (inl refl) nothing))))

-- ---- tables

columns-stay : (f : Footprint) (s : Seen) (q : QName) (columns : List ColumnDef) (next : List Column → Tree) → ((m : Mark) → Among (flat_map (column_reads q) columns) m → Among f.reads m) → ((made : List Column) → Stays f s (next made)) → Stays f s (needs_columns q columns next)
columns-stay f s q [] next read h = h []
columns-stay f s q (c ∷ cs) next read h =
    let own = type_reads c.type_name in
    let of_default = marks (but (key.Rel q) (default_references c.default)) in
    let later = flat_map (column_reads q) cs in
    type-stays f s c.type_name _ (λ m a. read m (among-left (own ++ of_default) later m (among-left own of_default m a))) (λ r.
    stays-each (but (key.Rel q) (default_references c.default)) (λ m a. read m (among-left (own ++ of_default) later m (among-right own of_default m a)))
    (columns-stay f s q cs _ (λ m a. read m (among-right (own ++ of_default) later m a)) (λ made. h _)))

default-covered : (f : Footprint) (s : Seen) (q : QName) (column : Bytes) (o : Option Bytes) → ((m : Mark) → Among (default_mark q column o) m → Among f.writes m) → AllCovered f s (default_set q column o)
default-covered f s q column None write = tt
default-covered f s q column (Some text) write = (covers-among f.reads f.writes (key.Default q column) (s.at (key.Default q column)) (Some (value.DefaultText text)) (write (mark.Key (key.Default q column)) (inl refl)), tt)

defaults-covered : (f : Footprint) (s : Seen) (q : QName) (columns : List ColumnDef) → ((m : Mark) → Among (flat_map (default_writes q) columns) m → Among f.writes m) → AllCovered f s (flat_map (λ c. default_set q c.name c.default) columns)
defaults-covered f s q [] write = tt
defaults-covered f s q (c ∷ cs) write =
    covered-append f s (default_set q c.name c.default) (flat_map (λ d. default_set q d.name d.default) cs)
    (default-covered f s q c.name c.default (λ m a. write m (among-left (default_writes q c) (flat_map (default_writes q) cs) m a)))
    (defaults-covered f s q cs (λ m a. write m (among-right (default_writes q c) (flat_map (default_writes q) cs) m a)))

checks-covered : (f : Footprint) (s : Seen) (q : QName) (checks : List CheckDef) → ((m : Mark) → Among (map (λ c. mark.Key (key.Con q c.name)) checks) m → Among f.writes m) → AllCovered f s (map (λ c. (key.Con q c.name, Some (check_value c.text))) checks)
checks-covered f s q [] write = tt
checks-covered f s q (c ∷ cs) write = (
  covers-among f.reads f.writes (key.Con q c.name) (s.at (key.Con q c.name)) (Some (check_value c.text)) (write (mark.Key (key.Con q c.name)) (inl refl)),
  checks-covered f s q cs (λ m a. write m (inr a)),
)

pub table-stays : (s : Seen) (ps : List (QName × QName)) (boot : Bytes) (q : QName) (columns : List ColumnDef) (checks : List CheckDef) → Stays (footprint_of (stmt.CreateTable q columns checks) ps) s (create_table boot q columns checks)
table-stays s ps boot q columns checks =
    let f = footprint_of (stmt.CreateTable q columns checks) ps in
    let of_columns = flat_map (column_reads q) columns in
    let of_checks = marks (but (key.Rel q) (check_references checks)) in
    let defaults = flat_map (default_writes q) columns in
    let constraints = map (λ c. mark.Key (key.Con q c.name)) checks in
    let sets_defaults = flat_map (λ c. default_set q c.name c.default) columns in
    let sets_checks = map (λ c. (key.Con q c.name, Some (check_value c.text))) checks in
    let rest : AllCovered f s (sets_defaults ++ sets_checks) =
    covered-append f s sets_defaults sets_checks
    (defaults-covered f s q columns (λ m a. inr (inr (inr (inr (among-left defaults constraints m a))))))
    (checks-covered f s q checks (λ m a. inr (inr (inr (inr (among-right defaults constraints m a)))))) in
    stays-needs (key.Schema q.schema) (inl refl)
    (stays-free (key.Rel q) (inr (inl refl)) (λ _.
    stays-check _ _
    (columns-stay f s q columns _ (λ m a. inr (inr (among-left of_columns of_checks m a))) (λ made.
    stays-each (but (key.Rel q) (check_references checks)) (λ m a. inr (inr (among-right of_columns of_checks m a)))
    (stays-sets (more f s (key.Rel q) _ (inl refl) (more f s (key.Rows q) _ (inr (inr (inr (inl refl)))) (more f s (key.Owner (object.Relation q)) _ (inr (inl refl)) (more f s (key.Acl (object.Relation q)) _ (inr (inr (inl refl))) (record { is = rest }))))))))))

pub default-stays : (s : Seen) (ps : List (QName × QName)) (q : QName) (column text : Bytes) → Stays (footprint_of (stmt.SetDefault q column text) ps) s (set_default q column text)
default-stays s ps q column text =
    let f = footprint_of (stmt.SetDefault q column text) ps in
    stays-table q (inl refl) (λ columns.
    stays-check _ _
    (stays-each (expression_references text) (λ m h. inr h)
    (stays-sets (more f s (key.Default q column) _ (inl refl) nothing))))

-- ---- sequences and views

pub sequence-stays : (s : Seen) (ps : List (QName × QName)) (boot : Bytes) (q : QName) (n : Sequence) → Stays (footprint_of (stmt.CreateSequence q n.kind n.start n.step n.min n.max n.cache n.cycle) ps) s (create_sequence boot q n)
sequence-stays s ps boot q n =
    let f = footprint_of (stmt.CreateSequence q n.kind n.start n.step n.min n.max n.cache n.cycle) ps in
    stays-needs (key.Schema q.schema) (inl refl)
    (stays-free (key.Rel q) (inr (inl refl)) (λ _.
    stays-check _ _
    (stays-sets (new-object-and f s (key.Rel q) (key.SeqVal q) (object.Relation q) boot (owner_only sequence_rights) _ _ (inl refl) (inr (inl refl)) (inr (inr (inl refl))) (inr (inr (inr (inl refl))))))))

pub owned_by-stays : (s : Seen) (ps : List (QName × QName)) (q table : QName) (column : Bytes) → Stays (footprint_of (stmt.OwnedBy q table column) ps) s (owned_by q table column)
owned_by-stays s ps q table column =
    let f = footprint_of (stmt.OwnedBy q table column) ps in
    stays-sequence q (inl refl) (λ n.
    stays-table table (inr (inl refl)) (λ columns.
    stays-check _ _ (stays-sets (more f s (key.OwnedBy q) _ (inl refl) nothing))))

pub set_value-stays : (s : Seen) (ps : List (QName × QName)) (q : QName) (n : ℤ) (called : Bool) → Stays (footprint_of (stmt.SetVal q n called) ps) s (set_value q n called)
set_value-stays s ps q n called =
    let f = footprint_of (stmt.SetVal q n called) ps in
    stays-sequence q (inl refl) (λ k. stays-check _ _ (stays-sets (more f s (key.SeqVal q) _ (inl refl) nothing)))

pub view-stays : (s : Seen) (ps : List (QName × QName)) (boot : Bytes) (q : QName) (body : Bytes) → Stays (footprint_of (stmt.CreateView q body) ps) s (create_view boot q body)
view-stays s ps boot q body =
    let f = footprint_of (stmt.CreateView q body) ps in
    stays-needs (key.Schema q.schema) (inl refl)
    (stays-free (key.Rel q) (inr (inl refl)) (λ _.
    stays-each (but (key.Rel q) (view_references body)) (λ m h. inr (inr h))
    (stays-sets (new-object-and f s (key.Rel q) (key.Body q) (object.Relation q) boot (owner_only table_rights) _ _ (inl refl) (inr (inl refl)) (inr (inr (inl refl))) (inr (inr (inr (inl refl))))))))

pub replace-stays : (s : Seen) (ps : List (QName × QName)) (q : QName) (body : Bytes) → Stays (footprint_of (stmt.ReplaceView q body) ps) s (replace_view q body)
replace-stays s ps q body =
    let f = footprint_of (stmt.ReplaceView q body) ps in
    stays-kind _ (key.Rel q) (inl refl)
    (stays-each (view_references body) (λ m h. inr h) (stays-sets (more f s (key.Body q) _ (inl refl) nothing)))

-- ---- constraints and indexes

pub primary-stays : (s : Seen) (ps : List (QName × QName)) (q : QName) (name : Bytes) (names : List Bytes) (rest : Bytes) → Stays (footprint_of (stmt.AddPrimary q name names rest) ps) s (add_primary q name names rest)
primary-stays s ps q name names rest =
    let f = footprint_of (stmt.AddPrimary q name names rest) ps in
    stays-table q (inl refl) (λ columns.
    stays-free (key.Con q name) (inr (inl refl)) (λ absent.
    stays-free (key.Rel (index_path q name)) (inr (inr (inl refl))) (λ _.
    stays-scan {c = class.PrimaryKeys q} (inr (inr (inr (inl refl)))) (λ es. stays-no_primary es
    (stays-check (columns_there columns names) cause.WrongColumns
    (stays-look {k = key.Rows q} (inr (inr (inr (inr (inl refl))))) (λ rows.
    stays-null (null_in 1 columns names (rows_in rows))
    (stays-repeated name (repeated columns names (rows_in rows))
    (stays-sets (more f s (key.Con q name) _ (inl (refl, absent, (refl, refl), inr (inl refl))) (more f s (key.Rel (index_path q name)) _ (inr (inl refl)) nothing)))))))))))

pub unique-stays : (s : Seen) (ps : List (QName × QName)) (q : QName) (name : Bytes) (names : List Bytes) (rest : Bytes) → Stays (footprint_of (stmt.AddUnique q name names rest) ps) s (add_unique q name names rest)
unique-stays s ps q name names rest =
    let f = footprint_of (stmt.AddUnique q name names rest) ps in
    stays-table q (inl refl) (λ columns.
    stays-free (key.Con q name) (inr (inl refl)) (λ absent.
    stays-free (key.Rel (index_path q name)) (inr (inr (inl refl))) (λ _.
    stays-check (columns_there columns names) cause.WrongColumns
    (stays-look {k = key.Rows q} (inr (inr (inr (inl refl)))) (λ rows.
    stays-repeated name (repeated columns names (rows_in rows))
    (stays-sets (more f s (key.Con q name) _ (inl (refl, absent, (refl, refl), inr (inl refl))) (more f s (key.Rel (index_path q name)) _ (inr (inl refl)) nothing))))))))

pub foreign-stays : (s : Seen) (ps : List (QName × QName)) (q : QName) (name : Bytes) (names : List Bytes) (parent : QName) (parent_names : List Bytes) (rest : Bytes) → Stays (footprint_of (stmt.AddForeign q name names parent parent_names rest) ps) s (add_foreign q name names parent parent_names rest)
foreign-stays s ps q name names parent parent_names rest =
    let f = footprint_of (stmt.AddForeign q name names parent parent_names rest) ps in
    stays-table q (inl refl) (λ columns.
    stays-table parent (inr (inl refl)) (λ parent_columns.
    stays-free (key.Con q name) (inr (inr (inl refl))) (λ absent.
    stays-check _ _
    (stays-scan {c = class.KeysOn parent parent_names} (inr (inr (inr (inl refl)))) (λ es. stays-has_key parent es
    (stays-look {k = key.Rows q} (inr (inr (inr (inr (inl refl))))) (λ rows.
    stays-look {k = key.Rows parent} (inr (inr (inr (inr (inr (inl refl)))))) (λ parent_rows.
    stays-orphan name (orphan columns names (rows_in rows) parent_columns parent_names (rows_in parent_rows))
    (stays-sets (more f s (key.Con q name) _ (inl (refl, absent, (refl, refl), inr (inr (inl refl)))) nothing))))))))))

pub check-stays : (s : Seen) (ps : List (QName × QName)) (q : QName) (name text : Bytes) → Stays (footprint_of (stmt.AddCheck q name text) ps) s (add_check q name text)
check-stays s ps q name text =
    let f = footprint_of (stmt.AddCheck q name text) ps in
    stays-table q (inl refl) (λ columns.
    stays-free (key.Con q name) (inr (inl refl)) (λ absent.
    stays-each (expression_references text) (λ m h. inr (inr h))
    (stays-sets (more f s (key.Con q name) _ (inl (refl, absent, (refl, refl), inr (inl refl))) nothing))))

pub index-stays : (s : Seen) (ps : List (QName × QName)) (q : QName) (name method rest : Bytes) → Stays (footprint_of (stmt.CreateIndex q name method rest) ps) s (create_index q name method rest)
index-stays s ps q name method rest =
    let f = footprint_of (stmt.CreateIndex q name method rest) ps in
    stays-table q (inl refl) (λ columns.
    stays-free (key.Rel (index_path q name)) (inr (inl refl)) (λ _.
    stays-free (key.Index q name) (inr (inr (inl refl))) (λ absent.
    stays-sets (more f s (key.Index q name) (Some (value.Index (record { method = method; unique = false; text = rest }))) (inl (refl, absent, refl, inr (inr (inl refl)))) (more f s (key.Rel (index_path q name)) _ (inr (inl refl)) nothing)))))

unique_rows-stay : (f : Footprint) (s : Seen) (q : QName) (name : Bytes) (columns : List Column) (on : Option (List Bytes)) (next : Tree) → ((m : Mark) → Among (row_reads q on) m → Among f.reads m) → Stays f s next → Stays f s (unique_rows q name columns on next)
unique_rows-stay f s q name columns None next read h = h
unique_rows-stay f s q name columns (Some names) next read h =
    stays-check (columns_there columns names) cause.WrongColumns
    (stays-look {k = key.Rows q} (read (mark.Key (key.Rows q)) (inl refl)) (λ rows. stays-repeated name (repeated columns names (rows_in rows)) h))

pub unique_index-stays : (s : Seen) (ps : List (QName × QName)) (q : QName) (name method rest : Bytes) → Stays (footprint_of (stmt.CreateUniqueIndex q name method rest) ps) s (create_unique_index q name method rest)
unique_index-stays s ps q name method rest =
    let f = footprint_of (stmt.CreateUniqueIndex q name method rest) ps in
    stays-table q (inl refl) (λ columns.
    stays-free (key.Rel (index_path q name)) (inr (inl refl)) (λ _.
    stays-free (key.Index q name) (inr (inr (inl refl))) (λ absent.
    unique_rows-stay f s q name columns (plain_columns rest) _ (λ m h. inr (inr (inr h)))
    (stays-sets (more f s (key.Index q name) (Some (value.Index (record { method = method; unique = true; text = rest }))) (inl (refl, absent, refl, inr (inr (inl refl)))) (more f s (key.Rel (index_path q name)) _ (inr (inl refl)) nothing))))))
