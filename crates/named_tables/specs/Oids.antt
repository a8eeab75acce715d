-- The oids of objects by their keys.
use Rattle.std.specs.Prelude.{◌≡◌, ℕ, Bool, true, false, Some}
use Rattle.std.specs.FinMap.{get}
use Rattle.cat_model.specs.declared.key.Key.{Key}
use Rattle.cat_model.specs.declared.key.Key.TheVariants as key
use Rattle.cat_model.specs.declared.value.Value.{Value}
use Rattle.cat_model.specs.declared.value.Value.TheVariants as value
use Rattle.cat_model.specs.declared.constraint.Encoding.TheVariants as encoding
use Rattle.cat_model.specs.Keys.{key_kind}
use Rattle.cat_model.specs.Values.{Bytes, Named}
use Rattle.cat_model.specs.declared.value.Role.{Role}
use Rattle.cat_names.specs.Lookups.{boot_oid, is_no_oid}

abbrev pub Oids : Type 0
Oids = Key → ℕ

-- the keys whose objects have an oid
abbrev pub has_oid : Key → Bool
has_oid (key.Role name) = true
has_oid (key.Member role member grantor) = true
has_oid (key.Schema name) = true
has_oid (key.UserType q) = true
has_oid (key.Rel q) = true
has_oid (key.Default q column) = true
has_oid (key.Con q name) = true
has_oid (key.Body q) = true
has_oid (key.Database name) = true
has_oid _ = false

-- no two objects of a kind have the same oid, and none has 0
pub record AreOids (named : Named) (oids : Oids) : Type 0 where
  pub apart : (j k : Key) (v w : Value) → get named j ≡ Some v → get named k ≡ Some w → has_oid j ≡ true → has_oid k ≡ true → key_kind j ≡ key_kind k → oids j ≡ oids k → j ≡ k
  pub some : (k : Key) (v : Value) → get named k ≡ Some v → has_oid k ≡ true → is_no_oid (oids k) ≡ false

-- what each cluster has: a role with the oid of the boot role, and the database that is the current one
pub record IsStarted (named : Named) (oids : Oids) (current : Bytes) : Type 0 where
  pub boot : Bytes
  pub role : Role
  pub boot_there : get named (key.Role boot) ≡ Some (value.Role role)
  pub boot_oid : oids (key.Role boot) ≡ boot_oid
  pub current_there : get named (key.Database current) ≡ Some (value.Database encoding.Utf8)
