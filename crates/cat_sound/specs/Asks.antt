-- What each key with its value asks of other keys. The keys of one object ask for one another, so that none is there
-- alone.
use Rattle.std.specs.Prelude.{List, [], ◌∷◌, ◌++◌, map, Option, Some, None, if◌then◌else◌}
use Rattle.std.specs.List.{flat_map}
use Rattle.std.specs.FinMap.{entries}
use Rattle.cat_model.specs.declared.object.QName.{QName}
use Rattle.cat_model.specs.declared.object.Object.{Object}
use Rattle.cat_model.specs.declared.object.Object.TheVariants as object
use Rattle.cat_model.specs.declared.key.Key.{Key}
use Rattle.cat_model.specs.declared.key.Key.TheVariants as key
use Rattle.cat_model.specs.declared.constraint.ConstraintKind.{ConstraintKind}
use Rattle.cat_model.specs.declared.constraint.ConstraintKind.TheVariants as kinds
use Rattle.cat_model.specs.declared.type_name.TypeName.{TypeName}
use Rattle.cat_model.specs.declared.type_name.TypeName.TheVariants.{Words, Path}
use Rattle.cat_model.specs.declared.value.Value.TheVariants as value
use Rattle.cat_model.specs.declared.value.Value.{Value}
use Rattle.cat_model.specs.declared.holder.Holder.{Holder}
use Rattle.cat_model.specs.declared.value.Column.{Column}
use Rattle.cat_model.specs.declared.value.Resolved.{Resolved}
use Rattle.cat_model.specs.declared.value.Constraint.{Constraint}
use Rattle.cat_model.specs.declared.value.Domain.{Domain}
use Rattle.cat_model.specs.declared.holder.Holder.TheVariants.{Owner as OWNER, Public as PUBLIC, Role as ROLE}
use Rattle.cat_model.specs.Values.{Bytes}
use Rattle.cat_model.specs.References.{is_system, expression_references, view_references}
use Rattle.cat_model.specs.TypeEffects.{default_references}
use Rattle.cat_model.specs.KeyEffects.{index_path}
use Rattle.cat_model.specs.Trees.{unique_on}
use Rattle.cat_sound.specs.Asked.{Asked}

abbrev pub Ask : Type 0
Ask = Key × Asked

-- the keys are there
abbrev pub all_there : List Key → List Ask
all_there keys = map (λ k. (k, Asked.there)) keys

-- an owner and grants
abbrev pub made_asks : Object → List Ask
made_asks o = (key.Owner o, Asked.there) ∷ (key.Acl o, Asked.there) ∷ []

-- ---- types

-- a type that isn't the system's is there, and comes to that
abbrev pub type_asks : TypeName → Resolved → List Ask
type_asks (Words text) end = []
type_asks (Path q) end = if is_system q.schema then [] else (key.UserType q, Asked.comes_to q end) ∷ []

-- its base, and what its default and its checks refer to
abbrev pub domain_asks : Domain → List Ask
domain_asks d =
    type_asks d.base d.resolved
    ++ all_there (default_references d.default)
    ++ flat_map (λ e. all_there (expression_references e.1)) (entries d.checks)

abbrev pub own_type_asks : Value → List Ask
own_type_asks (value.Domain d) = domain_asks d
own_type_asks _ = []

-- ---- relations

abbrev pub column_asks : Column → List Ask
column_asks c = type_asks c.type_name c.resolved

abbrev pub relation_asks : QName → Value → List Ask
relation_asks q (value.Table columns) = (key.Rows q, Asked.there) ∷ made_asks (object.Relation q) ++ flat_map column_asks columns
relation_asks q (value.Sequence s) = (key.SeqVal q, Asked.there) ∷ made_asks (object.Relation q)
relation_asks q value.View = (key.Body q, Asked.there) ∷ made_asks (object.Relation q)
relation_asks q _ = []

abbrev pub parent_asks : Option (QName × List Bytes) → List Ask
parent_asks (Some (parent, names)) = (key.Rel parent, Asked.has_columns names) ∷ []
parent_asks None = []

-- the index of a key, the parent of a foreign key, and what a check refers to
abbrev pub kind_asks : QName → Bytes → Constraint → ConstraintKind → List Ask
kind_asks q name c kinds.Primary = (key.Rel (index_path q name), Asked.index_on q) ∷ []
kind_asks q name c kinds.Unique = (key.Rel (index_path q name), Asked.index_on q) ∷ []
kind_asks q name c kinds.Foreign = parent_asks c.parent
kind_asks q name c kinds.Check = all_there (expression_references c.text)

abbrev pub constraint_asks : QName → Bytes → Value → List Ask
constraint_asks q name (value.Constraint c) = (key.Rel q, Asked.has_columns c.columns) ∷ kind_asks q name c c.kind
constraint_asks q name _ = []

abbrev pub names_or_none : Option (List Bytes) → List Bytes
names_or_none (Some names) = names
names_or_none None = []

-- a unique index over plain columns needs these
abbrev pub index_asks : QName → Bytes → Value → List Ask
index_asks q name (value.Index i) = (key.Rel q, Asked.has_columns (names_or_none (unique_on i))) ∷ (key.Rel (index_path q name), Asked.index_on q) ∷ []
index_asks q name _ = []

abbrev pub default_asks : QName → Bytes → Value → List Ask
default_asks q column (value.DefaultText text) = (key.Rel q, Asked.has_columns (column ∷ [])) ∷ all_there (expression_references text)
default_asks q column _ = []

abbrev pub rows_asks : QName → Value → List Ask
rows_asks q (value.Rows rows) = (key.Rel q, Asked.holds rows) ∷ []
rows_asks q _ = []

abbrev pub number_asks : QName → Value → List Ask
number_asks q (value.SequenceValue n called) = (key.Rel q, Asked.counts n) ∷ []
number_asks q _ = []

abbrev pub owning_asks : QName → Value → List Ask
owning_asks q (value.OwnedBy table column) = (key.Rel q, Asked.a_sequence) ∷ (key.Rel table, Asked.has_columns (column ∷ [])) ∷ []
owning_asks q _ = []

abbrev pub body_asks : QName → Value → List Ask
body_asks q (value.Body text) = (key.Rel q, Asked.a_view) ∷ all_there (view_references text)
body_asks q _ = []

-- ---- owners, grants and comments

-- the key that an object stands under
abbrev pub object_key : Object → Key
object_key (object.Schema name) = key.Schema name
object_key (object.Type q) = key.UserType q
object_key (object.Relation q) = key.Rel q
object_key (object.Column q column) = key.Rel q
object_key (object.Constraint q name) = key.Con q name
object_key (object.Database name) = key.Database name

abbrev pub owner_asks : Object → Value → List Ask
owner_asks o (value.Owner role) = (key.Role role, Asked.there) ∷ (object_key o, Asked.ownable) ∷ []
owner_asks o _ = []

-- a role that has rights is there, and isn't the owner, whose rights stand under the owner
abbrev pub holder_asks : Object → Holder → List Ask
holder_asks o OWNER = []
holder_asks o PUBLIC = []
holder_asks o (ROLE name) = (key.Role name, Asked.there) ∷ (key.Owner o, Asked.other_owner name) ∷ []

abbrev pub grants_asks : Object → Value → List Ask
grants_asks o (value.Grants grants) = (object_key o, Asked.takes grants) ∷ (key.Owner o, Asked.there) ∷ flat_map (λ e. holder_asks o e.0) (entries grants)
grants_asks o _ = []

-- a column is one of a table
abbrev pub comment_asks : Object → List Ask
comment_asks (object.Column q column) = (key.Rel q, Asked.has_columns (column ∷ [])) ∷ []
comment_asks o = (object_key o, Asked.there) ∷ []

-- ---- all keys

abbrev pub asks : Key → Value → List Ask
asks (key.Role name) v = []
asks (key.Member role member grantor) v = (key.Role role, Asked.there) ∷ (key.Role member, Asked.there) ∷ (key.Role grantor, Asked.there) ∷ []
asks (key.Schema name) v = made_asks (object.Schema name)
asks (key.UserType q) v = (key.Schema q.schema, Asked.there) ∷ made_asks (object.Type q) ++ own_type_asks v
asks (key.Rel q) v = (key.Schema q.schema, Asked.there) ∷ relation_asks q v
asks (key.Owner o) v = owner_asks o v
asks (key.Default q column) v = default_asks q column v
asks (key.Con q name) v = constraint_asks q name v
asks (key.Index q name) v = index_asks q name v
asks (key.Rows q) v = rows_asks q v
asks (key.SeqVal q) v = number_asks q v
asks (key.OwnedBy q) v = owning_asks q v
asks (key.Acl o) v = grants_asks o v
asks (key.Comment o) v = comment_asks o
asks (key.Body q) v = body_asks q v
asks (key.Database name) v = (key.Owner (object.Database name), Asked.there) ∷ []
