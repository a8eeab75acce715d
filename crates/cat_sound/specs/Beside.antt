-- What holds of a catalogue as a whole, which no key by itself asks of others: chains of domains end, a table has one
-- primary key, an index belongs to one key or stands alone, and the parents of foreign keys have keys.
use Rattle.std.specs.Prelude.{◌≡◌, ◌⊎◌, ℕ, zero, suc, Bool, true, false, not, List, Option, Some, None}
use Rattle.std.specs.FinMap.{get}
use Rattle.cat_model.specs.declared.object.QName.{QName}
use Rattle.cat_model.specs.declared.key.Key.{Key}
use Rattle.cat_model.specs.declared.key.Key.TheVariants as key
use Rattle.cat_model.specs.declared.class.Class.TheVariants as class
use Rattle.cat_model.specs.declared.type_name.TypeName.{TypeName}
use Rattle.cat_model.specs.declared.type_name.TypeName.TheVariants.{Words, Path}
use Rattle.cat_model.specs.declared.value.Value.TheVariants as value
use Rattle.cat_model.specs.declared.value.Value.{Value}
use Rattle.cat_model.specs.declared.value.Constraint.{Constraint}
use Rattle.cat_model.specs.declared.value.Domain.{Domain}
use Rattle.cat_model.specs.Values.{Bytes, Named}
use Rattle.cat_model.specs.References.{is_system}
use Rattle.cat_model.specs.Trees.{is_primary, is_unique, of_class}

-- ---- chains of domains

-- what a type is over: nothing for an enum; None where there is no type
abbrev pub base_of : Option Value → Option (Option TypeName)
base_of (Some (value.Enum labels)) = Some None
base_of (Some (value.Domain d)) = Some (Some d.base)
base_of _ = None

abbrev pub EndsBehind : (TypeName → Type 0) → Option (Option TypeName) → Type 0
EndsBehind later None = ⊥
EndsBehind later (Some None) = Unit {0}
EndsBehind later (Some (Some base)) = later base

-- the chain of a type ends behind at most so many types of the catalogue
abbrev pub EndsWithin : ℕ → Named → TypeName → Type 0
EndsWithin zero named (Words text) = Unit {0}
EndsWithin zero named (Path q) = is_system q.schema ≡ true
EndsWithin (suc n) named (Words text) = Unit {0}
EndsWithin (suc n) named (Path q) = (is_system q.schema ≡ true) ⊎ EndsBehind (EndsWithin n named) (base_of (get named (key.UserType q)))

abbrev pub Ends : Named → TypeName → Type 0
Ends named type = (n : ℕ) × EndsWithin n named type

-- ---- keys of tables

abbrev pub is_primary_at : Option Value → Bool
is_primary_at (Some (value.Constraint c)) = is_primary c.kind
is_primary_at _ = false

-- a primary key or a unique constraint
abbrev pub is_key_at : Option Value → Bool
is_key_at (Some (value.Constraint c)) = is_unique c.kind
is_key_at _ = false

abbrev pub is_index_at : Option Value → Bool
is_index_at (Some (value.Index i)) = true
is_index_at _ = false

-- a primary key, a unique constraint or a unique index of a table on this set of columns
abbrev pub HasKey : Named → QName → List Bytes → Type 0
HasKey named table names = (k : Key) × (v : Value) × (get named k ≡ Some v) × (of_class (class.KeysOn table names) k v ≡ true)

-- ---- all of it

pub record IsBeside (named : Named) : Type 0 where
  pub chains : (q : QName) (d : Domain) → get named (key.UserType q) ≡ Some (value.Domain d) → Ends named d.base
  pub primaries : (q : QName) (name other : Bytes) → is_primary_at (get named (key.Con q name)) ≡ true → is_primary_at (get named (key.Con q other)) ≡ true → name ≡ other
  -- the relation of an index is that of a key, or of an index that no key has
  pub indexes : (q table : QName) → get named (key.Rel q) ≡ Some (value.IndexOf table) → is_key_at (get named (key.Con table q.name)) ≡ not (is_index_at (get named (key.Index table q.name)))
  pub parents : (q : QName) (name : Bytes) (c : Constraint) (parent : QName) (names : List Bytes) → get named (key.Con q name) ≡ Some (value.Constraint c) → c.parent ≡ Some (parent, names) → HasKey named parent names
