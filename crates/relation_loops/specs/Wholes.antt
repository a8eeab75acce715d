-- What an entry of a catalogue by names says of a type or a relation, with its owner and its grants.
use Rattle.std.specs.Prelude.{Bool, true, false, Option, Some, None, if◌then◌else◌}
use Rattle.std.specs.FinMap.{get}
use Rattle.std.specs.Option.{option_map}
use Rattle.cat_model.specs.declared.object.QName.{QName}
use Rattle.cat_model.specs.declared.object.Object.TheVariants as object
use Rattle.cat_model.specs.declared.key.Key.TheVariants as key
use Rattle.cat_model.specs.declared.value.Value.{Value}
use Rattle.cat_model.specs.declared.value.Value.TheVariants as value
use Rattle.cat_model.specs.Values.{Bytes, Named, Grants}
use Rattle.cat_names.specs.Naming.{Entry}
use Rattle.object_rows.specs.Types.{NamedType}
use Rattle.object_rows.specs.Relations.{NamedRelation}
use Rattle.map_export.specs.Things.{both, owner_of, grants_on}

-- ---- types

abbrev pub is_type : Value → Bool
is_type (value.Enum labels) = true
is_type (value.Domain d) = true
is_type _ = false

-- what has this owner and these grants, where it is a type
abbrev pub type_with : QName → Value → Bytes → Grants → NamedType
type_with q v owner grants = record { path = q; type = v; owner = owner; grants = grants }

abbrev pub owned_type : QName → Value → Bytes → Grants → Option NamedType
owned_type q v owner grants = if is_type v then Some (type_with q v owner grants) else None

abbrev pub type_at : Named → QName → Value → Option NamedType
type_at named q v = if is_type v then both (type_with q v) (owner_of named (object.Type q)) (grants_on named (object.Type q)) else None

abbrev pub type_in : Named → Entry → Option NamedType
type_in named (key.UserType q, v) = type_at named q v
type_in named _ = None

-- ---- relations

-- a relation that has an owner and grants of its own
abbrev pub is_owned : Value → Bool
is_owned (value.Table columns) = true
is_owned value.View = true
is_owned (value.Sequence s) = true
is_owned _ = false

abbrev pub relation_of : QName → Value → NamedRelation
relation_of q v = record { path = q; relation = v }

abbrev pub owned_relation : QName → Value → Option NamedRelation
owned_relation q v = if is_owned v then Some (relation_of q v) else None

-- where an owner and grants are there
abbrev pub whole_relation : Named → QName → Value → Option NamedRelation
whole_relation named q v = if is_owned v then both (λ (owner : Bytes) (grants : Grants). relation_of q v) (owner_of named (object.Relation q)) (grants_on named (object.Relation q)) else None

-- an index, where its table has an owner
abbrev pub index_relation : Named → QName → QName → Option NamedRelation
index_relation named q table = option_map (λ (owner : Bytes). relation_of q (value.IndexOf table)) (owner_of named (object.Relation table))

abbrev pub relation_at : Named → QName → Value → Option NamedRelation
relation_at named q (value.IndexOf table) = index_relation named q table
relation_at named q v = whole_relation named q v

abbrev pub relation_in : Named → Entry → Option NamedRelation
relation_in named (key.Rel q, v) = relation_at named q v
relation_in named _ = None
