-- The conditions of statements, by their names: each looks at a key and refuses, or goes on.
use Rattle.std.specs.Prelude.{Bool, true, false, ◌||◌, List, [], ◌∷◌, Option, Some, None, if◌then◌else◌}
use Rattle.cat_model.specs.declared.object.QName.{QName}
use Rattle.cat_model.specs.declared.key.Key.{Key}
use Rattle.cat_model.specs.declared.key.Key.TheVariants as key
use Rattle.cat_model.specs.declared.cause.Cause.{Cause}
use Rattle.cat_model.specs.declared.cause.Cause.TheVariants as cause
use Rattle.cat_model.specs.Values as value
use Rattle.cat_model.specs.Values.{Bytes, Value, Column, Sequence, Domain, Role}
use Rattle.cat_model.specs.Tables.{column_there, columns_there}
use Rattle.cat_model.specs.Trees.{Tree, refuse, look}

abbrev pub if_there : Key → Tree → Option Value → Tree
if_there k next (Some _) = next
if_there k next None = refuse (cause.Absent k)

-- the key is there, else Absent
abbrev pub needs : Key → Tree → Tree
needs k next = look k (if_there k next)

-- each of the keys is there, else the first that isn't is Absent
abbrev pub needs_each : List Key → Tree → Tree
needs_each [] next = next
needs_each (k ∷ ks) next = needs k (needs_each ks next)

abbrev pub if_free : Key → Tree → Option Value → Tree
if_free k next (Some _) = refuse (cause.Exists k)
if_free k next None = next

-- the key isn't there, else Exists
abbrev pub free : Key → Tree → Tree
free k next = look k (if_free k next)

-- a condition on nothing but what was seen: it holds, else this cause
abbrev pub check : Bool → Cause → Tree → Tree
check holds because next = if holds then next else refuse because

-- ---- kinds of objects

abbrev pub if_of_kind : (Value → Bool) → Key → Tree → Option Value → Tree
if_of_kind kind k next (Some v) = check (kind v) (cause.Absent k) next
if_of_kind kind k next None = refuse (cause.Absent k)

-- the key is there and its object is of this kind, else Absent
abbrev pub needs_kind : (Value → Bool) → Key → Tree → Tree
needs_kind kind k next = look k (if_of_kind kind k next)

abbrev pub is_enum : Value → Bool
is_enum (value.enum _) = true
is_enum _ = false

abbrev pub is_domain : Value → Bool
is_domain (value.domain _) = true
is_domain _ = false

abbrev pub is_table : Value → Bool
is_table (value.table _) = true
is_table _ = false

abbrev pub is_sequence : Value → Bool
is_sequence (value.sequence _) = true
is_sequence _ = false

abbrev pub is_view : Value → Bool
is_view value.view = true
is_view _ = false

abbrev pub is_index : Value → Bool
is_index (value.index_of _) = true
is_index _ = false

abbrev pub is_type : Value → Bool
is_type v = is_enum v || is_domain v

abbrev pub is_table_or_view : Value → Bool
is_table_or_view v = is_table v || is_view v

-- ---- a kind of object, and what it is

abbrev pub if_table : QName → (List Column → Tree) → Option Value → Tree
if_table q next (Some (value.table columns)) = next columns
if_table q next _ = refuse (cause.Absent (key.Rel q))

-- a table of this path, with its columns
abbrev pub needs_table : QName → (List Column → Tree) → Tree
needs_table q next = look (key.Rel q) (if_table q next)

abbrev pub if_sequence : QName → (Sequence → Tree) → Option Value → Tree
if_sequence q next (Some (value.sequence s)) = next s
if_sequence q next _ = refuse (cause.Absent (key.Rel q))

abbrev pub needs_sequence : QName → (Sequence → Tree) → Tree
needs_sequence q next = look (key.Rel q) (if_sequence q next)

abbrev pub if_domain : QName → (Domain → Tree) → Option Value → Tree
if_domain q next (Some (value.domain d)) = next d
if_domain q next _ = refuse (cause.Absent (key.UserType q))

abbrev pub needs_domain : QName → (Domain → Tree) → Tree
needs_domain q next = look (key.UserType q) (if_domain q next)

abbrev pub if_role : Bytes → (Role → Tree) → Option Value → Tree
if_role name next (Some (value.role r)) = next r
if_role name next _ = refuse (cause.Absent (key.Role name))

abbrev pub needs_role : Bytes → (Role → Tree) → Tree
needs_role name next = look (key.Role name) (if_role name next)

-- ---- columns

-- the column is there, else WrongColumns
abbrev pub column_in : List Column → Bytes → Tree → Tree
column_in columns name next = check (column_there columns name) cause.WrongColumns next

-- the columns are there, none twice, else WrongColumns
abbrev pub columns_in : List Column → List Bytes → Tree → Tree
columns_in columns names next = check (columns_there columns names) cause.WrongColumns next
