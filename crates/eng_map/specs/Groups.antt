-- Which keys stand together, so that the keys of a class are found without going over all: a table's constraints and
-- indexes, and the memberships of a role and its member.
use Rattle.std.specs.Prelude.{◌≡◌, Bool, true, false, List, Option, Some, None}
use Rattle.std.specs.BTreeMap.{BTreeMap, get}
use Rattle.std.specs.BTreeSet.{BTreeSet, contains}
use Rattle.std.specs.Option.{option_map_or}
use Rattle.cat_model.specs.declared.class.Class.{Class}
use Rattle.cat_model.specs.declared.class.Class.TheVariants as class
use Rattle.cat_model.specs.declared.key.Key.{Key}
use Rattle.cat_model.specs.declared.key.Key.TheVariants as key
use Rattle.cat_model.specs.declared.value.Value.{Value}
use Rattle.cat_model.specs.Keys.{key_cmp}

-- The key under which a key is listed: its table's; for a membership, that of which the member is the grantor too.
abbrev pub group_of : Key → Option Key
group_of (key.Con table name) = Some (key.Rel table)
group_of (key.Index table name) = Some (key.Rel table)
group_of (key.Member role member grantor) = Some (key.Member role member member)
group_of _ = None

-- the key under which the keys of a class are listed
abbrev pub class_group : Class → Key
class_group (class.Constraints table) = key.Rel table
class_group (class.Indexes table) = key.Rel table
class_group (class.PrimaryKeys table) = key.Rel table
class_group (class.KeysOn table columns) = key.Rel table
class_group (class.Members role member) = key.Member role member member

abbrev pub Groups : Type 0
Groups = BTreeMap Key (BTreeSet Key)

-- whether a key is listed under another
abbrev pub is_listed : Groups → Key → Key → Bool
is_listed groups group k = option_map_or (λ keys. contains key_cmp keys k) (get key_cmp groups group) false

-- a key that stands with others is listed under their key
abbrev pub HasPlace : Groups → Key → Type 0
HasPlace groups k = (group : Key) → group_of k ≡ Some group → is_listed groups group k ≡ true

-- each key that has a value has its place; a key that has none may be listed too
abbrev pub AreGrouped : (Key → Option Value) → Groups → Type 0
AreGrouped at groups = (k : Key) (v : Value) → at k ≡ Some v → HasPlace groups k
