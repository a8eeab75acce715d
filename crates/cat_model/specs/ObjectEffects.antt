-- The effects of statements about any object: its schema, owner, grants and comment.
use Rattle.std.specs.Prelude.{Bool, ◌||◌, not, List, [], ◌∷◌, ◌++◌, Option, Some, None}
use Rattle.std.specs.Option.{option_map}
use Rattle.cat_model.specs.declared.key.Key.{Key}
use Rattle.cat_model.specs.declared.key.Key.TheVariants as key
use Rattle.cat_model.specs.declared.object.Object.{Object}
use Rattle.cat_model.specs.declared.object.Object.TheVariants as object
use Rattle.cat_model.specs.declared.grant.Owned.{Owned}
use Rattle.cat_model.specs.declared.grant.Owned.TheVariants as owned
use Rattle.cat_model.specs.declared.grant.Granted.{Granted}
use Rattle.cat_model.specs.declared.grant.Granted.TheVariants as on
use Rattle.cat_model.specs.declared.grant.Commented.{Commented}
use Rattle.cat_model.specs.declared.grant.Commented.TheVariants as commented
use Rattle.cat_model.specs.declared.grant.Grantee.{Grantee}
use Rattle.cat_model.specs.declared.grant.Grantee.TheVariants as grantee
use Rattle.cat_model.specs.declared.cause.Cause.TheVariants as cause
use Rattle.cat_model.specs.Values as value
use Rattle.cat_model.specs.Values.{Bytes, Value, Grants, Holder}
use Rattle.cat_model.specs.Grants.{owner_only, schema_rights, joined, holder_of}
use Rattle.cat_model.specs.Trees.{Change, Tree, sets, look}
use Rattle.cat_model.specs.References.{is_system}
use Rattle.cat_model.specs.Conditions.{needs, free, needs_kind, needs_table, column_in, check, is_enum, is_domain, is_table, is_sequence, is_view, is_index, is_type, is_table_or_view}

-- what each new object gets: the boot role as its owner, and default grants
abbrev pub made : Object → Bytes → Grants → List Change
made o boot grants = (key.Owner o, Some (value.owner boot)) ∷ (key.Acl o, Some (value.grants grants)) ∷ []

abbrev pub create_schema : Bytes → Bytes → Tree
create_schema boot name =
    free (key.Schema name)
    (check (not (is_system name)) (cause.Exists (key.Schema name))
    (sets ((key.Schema name, Some value.schema) ∷ made (object.Schema name) boot (owner_only schema_rights))))

-- ---- OWNER TO

-- TYPE takes enums, and TABLE takes views and sequences too
abbrev pub needs_owned : Owned → Tree → Tree
needs_owned (owned.Schema name) = needs (key.Schema name)
needs_owned (owned.Type q) = needs_kind is_enum (key.UserType q)
needs_owned (owned.Domain q) = needs_kind is_domain (key.UserType q)
needs_owned (owned.Table q) = needs_kind (λ v. is_table_or_view v || is_sequence v) (key.Rel q)
needs_owned (owned.Sequence q) = needs_kind is_sequence (key.Rel q)
needs_owned (owned.View q) = needs_kind is_view (key.Rel q)
needs_owned (owned.Database name) = needs (key.Database name)

abbrev pub owned_object : Owned → Object
owned_object (owned.Schema name) = object.Schema name
owned_object (owned.Type q) = object.Type q
owned_object (owned.Domain q) = object.Type q
owned_object (owned.Table q) = object.Relation q
owned_object (owned.Sequence q) = object.Relation q
owned_object (owned.View q) = object.Relation q
owned_object (owned.Database name) = object.Database name

-- the grants after the owner changed; a database has none
abbrev pub grants_joined : Object → Bytes → Option Value → List Change
grants_joined o role (Some (value.grants grants)) = (key.Acl o, Some (value.grants (joined role grants))) ∷ []
grants_joined o role _ = []

abbrev pub owner_to : Owned → Bytes → Tree
owner_to what role =
    let o = owned_object what in
    needs_owned what
    (needs (key.Role role)
    (look (key.Acl o) (λ grants. sets ((key.Owner o, Some (value.owner role)) ∷ grants_joined o role grants))))

-- ---- GRANT and REVOKE

-- TABLE takes views too, and TYPE takes enums and domains
abbrev pub needs_granted : Granted → Tree → Tree
needs_granted (on.Table q) = needs_kind is_table_or_view (key.Rel q)
needs_granted (on.Sequence q) = needs_kind is_sequence (key.Rel q)
needs_granted (on.Schema name) = needs (key.Schema name)
needs_granted (on.Type q) = needs_kind is_type (key.UserType q)

abbrev pub granted_object : Granted → Object
granted_object (on.Table q) = object.Relation q
granted_object (on.Sequence q) = object.Relation q
granted_object (on.Schema name) = object.Schema name
granted_object (on.Type q) = object.Type q

abbrev pub needs_grantee : Grantee → Tree → Tree
needs_grantee grantee.Public next = next
needs_grantee (grantee.Role name) next = needs (key.Role name) next

abbrev pub owner_in : Option Value → Bytes
owner_in (Some (value.owner name)) = name
owner_in _ = []

abbrev pub grants_changed : Object → (Grants → Grants) → Option Value → List Change
grants_changed o change (Some (value.grants grants)) = (key.Acl o, Some (value.grants (change grants))) ∷ []
grants_changed o change _ = []

-- the grantee's item of the grants is changed, which is the owner's where the grantee is the owner
abbrev pub change_grants : Granted → Grantee → (Holder → Grants → Grants) → Tree
change_grants what who change =
    let o = granted_object what in
    needs_granted what
    (needs_grantee who
    (look (key.Owner o) (λ owner.
    look (key.Acl o) (λ grants.
    sets (grants_changed o (change (holder_of (owner_in owner) who)) grants)))))

-- ---- COMMENT

abbrev pub needs_commented : Commented → Tree → Tree
needs_commented (commented.Schema name) next = needs (key.Schema name) next
needs_commented (commented.Type q) next = needs_kind is_enum (key.UserType q) next
needs_commented (commented.Domain q) next = needs_kind is_domain (key.UserType q) next
needs_commented (commented.Table q) next = needs_kind is_table (key.Rel q) next
needs_commented (commented.View q) next = needs_kind is_view (key.Rel q) next
needs_commented (commented.Sequence q) next = needs_kind is_sequence (key.Rel q) next
needs_commented (commented.Index q) next = needs_kind is_index (key.Rel q) next
needs_commented (commented.Column q column) next = needs_table q (λ columns. column_in columns column next)
needs_commented (commented.Constraint q name) next = needs (key.Con q name) next

abbrev pub commented_object : Commented → Object
commented_object (commented.Schema name) = object.Schema name
commented_object (commented.Type q) = object.Type q
commented_object (commented.Domain q) = object.Type q
commented_object (commented.Table q) = object.Relation q
commented_object (commented.View q) = object.Relation q
commented_object (commented.Sequence q) = object.Relation q
commented_object (commented.Index q) = object.Relation q
commented_object (commented.Column q column) = object.Column q column
commented_object (commented.Constraint q name) = object.Constraint q name

abbrev pub comment_on : Commented → Option Bytes → Tree
comment_on what text =
    needs_commented what (sets ((key.Comment (commented_object what), option_map value.comment text) ∷ []))
