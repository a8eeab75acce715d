-- The footprint of each statement: what it reads, which is all that its conditions look at, and what it writes.
-- `parents` are pairs of a table and a parent of one of its foreign keys.
use Rattle.std.specs.Prelude.{◌≡◌, Bool, true, false, ◌&&◌, List, [], ◌∷◌, ◌++◌, map, Option, Some, None, if◌then◌else◌}
use Rattle.std.specs.List.{list_any, flat_map}
use Rattle.std.specs.FinMap.{get}
use Rattle.cat_model.specs.declared.object.QName.{QName}
use Rattle.cat_model.specs.declared.object.Object.{Object}
use Rattle.cat_model.specs.declared.object.Object.TheVariants as object
use Rattle.cat_model.specs.declared.key.Key.{Key}
use Rattle.cat_model.specs.declared.key.Key.TheVariants as key
use Rattle.cat_model.specs.declared.class.Class.TheVariants as class
use Rattle.cat_model.specs.declared.class.Mark.{Mark}
use Rattle.cat_model.specs.declared.class.Mark.TheVariants as mark
use Rattle.cat_model.specs.declared.footprint.Footprint.{Footprint}
use Rattle.cat_model.specs.declared.constraint.ConstraintKind.TheVariants as kinds
use Rattle.cat_model.specs.declared.grant.Owned.{Owned}
use Rattle.cat_model.specs.declared.grant.Owned.TheVariants as owned
use Rattle.cat_model.specs.declared.grant.Granted.{Granted}
use Rattle.cat_model.specs.declared.grant.Granted.TheVariants as on
use Rattle.cat_model.specs.declared.grant.Commented.{Commented}
use Rattle.cat_model.specs.declared.grant.Commented.TheVariants as commented
use Rattle.cat_model.specs.declared.grant.Grantee.{Grantee}
use Rattle.cat_model.specs.declared.grant.Grantee.TheVariants as grantee
use Rattle.cat_model.specs.declared.type_name.TypeName.{TypeName}
use Rattle.cat_model.specs.declared.type_name.TypeName.TheVariants.{Words, Path}
use Rattle.cat_model.specs.declared.table.ColumnDef.{ColumnDef}
use Rattle.cat_model.specs.declared.table.CheckDef.{CheckDef}
use Rattle.cat_model.specs.declared.stmt.Stmt.{Stmt}
use Rattle.cat_model.specs.declared.stmt.Stmt.TheVariants as stmt
use Rattle.cat_model.specs.Values as value
use Rattle.cat_model.specs.Values.{Bytes, Value, Named, Constraint}
use Rattle.cat_model.specs.References.{is_system, expression_references, view_references}
use Rattle.cat_model.specs.IndexColumns.{plain_columns}
use Rattle.cat_model.specs.Trees.{same_path}
use Rattle.cat_model.specs.ObjectEffects.{owned_object, granted_object, commented_object}
use Rattle.cat_model.specs.TypeEffects.{but, default_references, check_references}
use Rattle.cat_model.specs.KeyEffects.{index_path}

abbrev pub marks : List Key → List Mark
marks keys = map (λ k. mark.Key k) keys

-- ---- what parts of statements read

abbrev pub type_reads : TypeName → List Mark
type_reads (Words text) = []
type_reads (Path q) = if is_system q.schema then [] else mark.Key (key.UserType q) ∷ []

-- a column's type, then what its default refers to, but the table itself
abbrev pub column_reads : QName → ColumnDef → List Mark
column_reads q c = type_reads c.type_name ++ marks (but (key.Rel q) (default_references c.default))

abbrev pub owned_key : Owned → Key
owned_key (owned.Schema name) = key.Schema name
owned_key (owned.Type q) = key.UserType q
owned_key (owned.Domain q) = key.UserType q
owned_key (owned.Table q) = key.Rel q
owned_key (owned.Sequence q) = key.Rel q
owned_key (owned.View q) = key.Rel q
owned_key (owned.Database name) = key.Database name

abbrev pub granted_key : Granted → Key
granted_key (on.Table q) = key.Rel q
granted_key (on.Sequence q) = key.Rel q
granted_key (on.Schema name) = key.Schema name
granted_key (on.Type q) = key.UserType q

abbrev pub commented_key : Commented → Key
commented_key (commented.Schema name) = key.Schema name
commented_key (commented.Type q) = key.UserType q
commented_key (commented.Domain q) = key.UserType q
commented_key (commented.Table q) = key.Rel q
commented_key (commented.View q) = key.Rel q
commented_key (commented.Sequence q) = key.Rel q
commented_key (commented.Index q) = key.Rel q
commented_key (commented.Column q column) = key.Rel q
commented_key (commented.Constraint q name) = key.Con q name

abbrev pub grantee_reads : Grantee → List Mark
grantee_reads grantee.Public = []
grantee_reads (grantee.Role name) = mark.Key (key.Role name) ∷ []

abbrev pub grantor_reads : Option Bytes → List Mark
grantor_reads None = []
grantor_reads (Some name) = mark.Key (key.Role name) ∷ []

-- the relation and the rows of each parent of the table
abbrev pub parent_reads : QName → List (QName × QName) → List Mark
parent_reads q [] = []
parent_reads q (pair ∷ parents) =
    if same_path q pair.0 then mark.Key (key.Rel pair.1) ∷ mark.Key (key.Rows pair.1) ∷ parent_reads q parents
    else parent_reads q parents

abbrev pub row_reads : QName → Option (List Bytes) → List Mark
row_reads q None = []
row_reads q (Some names) = mark.Key (key.Rows q) ∷ []

-- ---- what parts of statements write

-- a new object, its owner and its grants
abbrev pub made_marks : Key → Object → List Mark
made_marks k o = mark.Key k ∷ mark.Key (key.Owner o) ∷ mark.Key (key.Acl o) ∷ []

abbrev pub default_mark : QName → Bytes → Option Bytes → List Mark
default_mark q column None = []
default_mark q column (Some text) = mark.Key (key.Default q column) ∷ []

abbrev pub default_writes : QName → ColumnDef → List Mark
default_writes q c = default_mark q c.name c.default

-- ---- reads and writes

abbrev pub reads_of : Stmt → List (QName × QName) → List Mark
reads_of (stmt.Set name text) parents = []
reads_of (stmt.SetConfig name text) parents = []
reads_of (stmt.CreateSchema name) parents = mark.Key (key.Schema name) ∷ []
reads_of (stmt.CreateEnum q labels) parents = mark.Key (key.Schema q.schema) ∷ mark.Key (key.UserType q) ∷ []
reads_of (stmt.CreateDomain q base not_null default checks) parents =
    mark.Key (key.Schema q.schema) ∷ mark.Key (key.UserType q)
    ∷ type_reads base ++ marks (default_references default) ++ marks (but (key.UserType q) (check_references checks))
reads_of (stmt.AddDomainCheck q name text) parents = mark.Key (key.UserType q) ∷ marks (expression_references text)
reads_of (stmt.CreateTable q columns checks) parents =
    mark.Key (key.Schema q.schema) ∷ mark.Key (key.Rel q)
    ∷ flat_map (column_reads q) columns ++ marks (but (key.Rel q) (check_references checks))
reads_of (stmt.CreateSequence q kind start step min max cache cycle) parents =
    mark.Key (key.Schema q.schema) ∷ mark.Key (key.Rel q) ∷ []
reads_of (stmt.OwnedBy q table column) parents = mark.Key (key.Rel q) ∷ mark.Key (key.Rel table) ∷ []
reads_of (stmt.SetVal q n called) parents = mark.Key (key.Rel q) ∷ []
reads_of (stmt.CreateView q body) parents =
    mark.Key (key.Schema q.schema) ∷ mark.Key (key.Rel q) ∷ marks (but (key.Rel q) (view_references body))
reads_of (stmt.ReplaceView q body) parents = mark.Key (key.Rel q) ∷ marks (view_references body)
reads_of (stmt.SetDefault q column text) parents = mark.Key (key.Rel q) ∷ marks (expression_references text)
reads_of (stmt.AddPrimary q name names rest) parents =
    mark.Key (key.Rel q) ∷ mark.Key (key.Con q name) ∷ mark.Key (key.Rel (index_path q name))
    ∷ mark.Class (class.PrimaryKeys q) ∷ mark.Key (key.Rows q) ∷ []
reads_of (stmt.AddUnique q name names rest) parents =
    mark.Key (key.Rel q) ∷ mark.Key (key.Con q name) ∷ mark.Key (key.Rel (index_path q name)) ∷ mark.Key (key.Rows q) ∷ []
reads_of (stmt.AddForeign q name names parent parent_names rest) parents =
    mark.Key (key.Rel q) ∷ mark.Key (key.Rel parent) ∷ mark.Key (key.Con q name)
    ∷ mark.Class (class.KeysOn parent parent_names) ∷ mark.Key (key.Rows q) ∷ mark.Key (key.Rows parent) ∷ []
reads_of (stmt.AddCheck q name text) parents =
    mark.Key (key.Rel q) ∷ mark.Key (key.Con q name) ∷ marks (expression_references text)
reads_of (stmt.CreateIndex q name method rest) parents =
    mark.Key (key.Rel q) ∷ mark.Key (key.Rel (index_path q name)) ∷ mark.Key (key.Index q name) ∷ []
reads_of (stmt.CreateUniqueIndex q name method rest) parents =
    mark.Key (key.Rel q) ∷ mark.Key (key.Rel (index_path q name)) ∷ mark.Key (key.Index q name) ∷ row_reads q (plain_columns rest)
reads_of (stmt.CopyRows q names rows) parents =
    mark.Key (key.Rel q) ∷ mark.Class (class.Constraints q) ∷ mark.Class (class.Indexes q) ∷ mark.Key (key.Rows q)
    ∷ parent_reads q parents
reads_of (stmt.Grant what rights who option) parents =
    mark.Key (granted_key what) ∷ mark.Key (key.Owner (granted_object what)) ∷ mark.Key (key.Acl (granted_object what)) ∷ grantee_reads who
reads_of (stmt.Revoke what rights who) parents =
    mark.Key (granted_key what) ∷ mark.Key (key.Owner (granted_object what)) ∷ mark.Key (key.Acl (granted_object what)) ∷ grantee_reads who
reads_of (stmt.Comment what text) parents = mark.Key (commented_key what) ∷ []
reads_of (stmt.OwnerTo what role) parents =
    mark.Key (owned_key what) ∷ mark.Key (key.Role role) ∷ mark.Key (key.Acl (owned_object what)) ∷ []
reads_of (stmt.CreateRole name) parents = mark.Key (key.Role name) ∷ []
reads_of (stmt.AlterRole name changes) parents = mark.Key (key.Role name) ∷ []
reads_of (stmt.GrantRole role member grantor admin inherit may_set) parents =
    mark.Key (key.Role role) ∷ mark.Key (key.Role member) ∷ mark.Class (class.Members role member) ∷ grantor_reads grantor
reads_of (stmt.CreateDatabase name encoding) parents = mark.Key (key.Database name) ∷ []
reads_of (stmt.Connect name) parents = mark.Key (key.Database name) ∷ []

abbrev pub writes_of : Stmt → List Mark
writes_of (stmt.Set name text) = []
writes_of (stmt.SetConfig name text) = []
writes_of (stmt.CreateSchema name) = made_marks (key.Schema name) (object.Schema name)
writes_of (stmt.CreateEnum q labels) = made_marks (key.UserType q) (object.Type q)
writes_of (stmt.CreateDomain q base not_null default checks) = made_marks (key.UserType q) (object.Type q)
writes_of (stmt.AddDomainCheck q name text) = mark.Key (key.UserType q) ∷ []
writes_of (stmt.CreateTable q columns checks) =
    made_marks (key.Rel q) (object.Relation q) ++ mark.Key (key.Rows q)
    ∷ flat_map (default_writes q) columns ++ map (λ c. mark.Key (key.Con q c.name)) checks
writes_of (stmt.CreateSequence q kind start step min max cache cycle) =
    made_marks (key.Rel q) (object.Relation q) ++ mark.Key (key.SeqVal q) ∷ []
writes_of (stmt.OwnedBy q table column) = mark.Key (key.OwnedBy q) ∷ []
writes_of (stmt.SetVal q n called) = mark.Key (key.SeqVal q) ∷ []
writes_of (stmt.CreateView q body) = made_marks (key.Rel q) (object.Relation q) ++ mark.Key (key.Body q) ∷ []
writes_of (stmt.ReplaceView q body) = mark.Key (key.Body q) ∷ []
writes_of (stmt.SetDefault q column text) = mark.Key (key.Default q column) ∷ []
writes_of (stmt.AddPrimary q name names rest) = mark.NewConstraint q name kinds.Primary names ∷ mark.Key (key.Rel (index_path q name)) ∷ []
writes_of (stmt.AddUnique q name names rest) = mark.NewConstraint q name kinds.Unique names ∷ mark.Key (key.Rel (index_path q name)) ∷ []
writes_of (stmt.AddForeign q name names parent parent_names rest) = mark.NewConstraint q name kinds.Foreign names ∷ []
writes_of (stmt.AddCheck q name text) = mark.NewConstraint q name kinds.Check [] ∷ []
writes_of (stmt.CreateIndex q name method rest) = mark.NewIndex q name None ∷ mark.Key (key.Rel (index_path q name)) ∷ []
writes_of (stmt.CreateUniqueIndex q name method rest) = mark.NewIndex q name (plain_columns rest) ∷ mark.Key (key.Rel (index_path q name)) ∷ []
writes_of (stmt.CopyRows q names rows) = mark.Key (key.Rows q) ∷ []
writes_of (stmt.Grant what rights who option) = mark.Key (key.Acl (granted_object what)) ∷ []
writes_of (stmt.Revoke what rights who) = mark.Key (key.Acl (granted_object what)) ∷ []
writes_of (stmt.Comment what text) = mark.Key (key.Comment (commented_object what)) ∷ []
writes_of (stmt.OwnerTo what role) = mark.Key (key.Owner (owned_object what)) ∷ mark.Key (key.Acl (owned_object what)) ∷ []
writes_of (stmt.CreateRole name) = mark.Key (key.Role name) ∷ []
writes_of (stmt.AlterRole name changes) = mark.Key (key.Role name) ∷ []
writes_of (stmt.GrantRole role member grantor admin inherit may_set) = mark.Class (class.Members role member) ∷ []
writes_of (stmt.CreateDatabase name encoding) = mark.Key (key.Database name) ∷ mark.Key (key.Owner (object.Database name)) ∷ []
writes_of (stmt.Connect name) = []

abbrev pub footprint_of : Stmt → List (QName × QName) → Footprint
footprint_of s parents = record { reads = reads_of s parents; writes = writes_of s }

-- ---- the condition of COPY

abbrev pub is_given : List (QName × QName) → QName → QName → Bool
is_given parents q parent = list_any (λ pair. same_path q pair.0 && same_path parent pair.1) parents

-- the pairs hold each foreign key of the table that a COPY names
abbrev pub GivesParents : List (QName × QName) → Named → Stmt → Type 0
GivesParents parents named (stmt.CopyRows q names rows) =
    (name : Bytes) (c : Constraint) (parent : QName) (parent_names : List Bytes)
    → get named (key.Con q name) ≡ Some (value.constraint c) → c.parent ≡ Some (parent, parent_names) → is_given parents q parent ≡ true
GivesParents parents named _ = Unit {0}
