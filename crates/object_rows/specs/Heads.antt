-- What the row of an object has besides its name and what it is.
use Rattle.std.specs.Prelude.{◌≡◌}
use Rattle.cat_model.specs.declared.key.Key.{Key}
use Rattle.cat_model.specs.declared.key.Key.TheVariants as key
use Rattle.cat_model.specs.Values.{Bytes, Grants}
use Rattle.cat_names.specs.declared.rights.GrantKind.{GrantKind}
use Rattle.named_tables.specs.Oids.{Oids}
use Rattle.named_tables.specs.Rights.{IsAcl}
use Rattle.object_rows.specs.declared.parts.Head.{Head}

-- the oids of an object, of its schema and of its owner, and the list of its rights
pub record IsHead (oids : Oids) (kind : GrantKind) (k : Key) (of role : Bytes) (grants : Grants) (head : Head) : Type 0 where
  pub oid : oids k ≡ head.oid
  pub schema : oids (key.Schema of) ≡ head.schema
  pub owner : oids (key.Role role) ≡ head.owner
  pub rights : IsAcl kind role grants head.rights
