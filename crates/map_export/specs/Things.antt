-- What an entry of a catalogue by names says, with what stands under the other keys of its object.
use Rattle.std.specs.Prelude.{Option, Some, None}
use Rattle.std.specs.Option.{option_map}
use Rattle.std.specs.FinMap.{get}
use Rattle.cat_model.specs.declared.constraint.Encoding.TheVariants as encoding
use Rattle.cat_model.specs.declared.object.Object.{Object}
use Rattle.cat_model.specs.declared.object.Object.TheVariants as object
use Rattle.cat_model.specs.declared.key.Key.TheVariants as key
use Rattle.cat_model.specs.declared.value.Value.{Value}
use Rattle.cat_model.specs.declared.value.Value.TheVariants as value
use Rattle.cat_model.specs.Values.{Bytes, Named, Grants}
use Rattle.cat_names.specs.Naming.{Entry}
use Rattle.named_tables.specs.Cluster.{NamedRole, NamedMember, NamedDatabase, NamedSchema}

-- ---- under other keys

abbrev pub owner_in : Option Value → Option Bytes
owner_in (Some (value.Owner name)) = Some name
owner_in _ = None

abbrev pub owner_of : Named → Object → Option Bytes
owner_of named o = owner_in (get named (key.Owner o))

abbrev pub grants_in : Option Value → Option Grants
grants_in (Some (value.Grants grants)) = Some grants
grants_in _ = None

abbrev pub grants_on : Named → Object → Option Grants
grants_on named o = grants_in (get named (key.Acl o))

abbrev pub both : {A B C : Type 0} → (A → B → C) → Option A → Option B → Option C
both f (Some a) (Some b) = Some (f a b)
both f (Some a) None = None
both f None o = None

-- ---- roles, memberships, databases and schemas

abbrev pub role_in : Entry → Option NamedRole
role_in (key.Role name, value.Role role) = Some (record { name = name; role = role })
role_in _ = None

abbrev pub member_in : Entry → Option NamedMember
member_in (key.Member role member grantor, value.Member options) = Some (record { role = role; member = member; grantor = grantor; options = options })
member_in _ = None

abbrev pub database_in : Named → Entry → Option NamedDatabase
database_in named (key.Database name, value.Database encoding.Utf8) = option_map (λ (owner : Bytes). record { name = name; owner = owner }) (owner_of named (object.Database name))
database_in named _ = None

abbrev pub schema_in : Named → Entry → Option NamedSchema
schema_in named (key.Schema name, value.Schema) = both (λ (owner : Bytes) (grants : Grants). record { name = name; owner = owner; grants = grants }) (owner_of named (object.Schema name)) (grants_on named (object.Schema name))
schema_in named _ = None
