-- Relations that have an owner, and sequences that a column owns.
use Rattle.std.proofs.Common.{◌≡◌, Option, Some, None, refl, sym}
use Rattle.std.specs.FinMap.{get}
use Rattle.cat_model.specs.declared.key.Key.TheVariants as key
use Rattle.cat_model.specs.declared.object.Object.TheVariants as object
use Rattle.cat_model.specs.declared.object.QName.{QName}
use Rattle.cat_model.specs.declared.value.Value.{Value}
use Rattle.cat_model.specs.declared.value.Value.TheVariants as value
use Rattle.cat_model.specs.Values.{Bytes, Named, Grants}
use Rattle.cat_names.specs.declared.rights.GrantKind.{GrantKind}
use Rattle.named_objects.specs.Oids.{ObjectOids}
use Rattle.named_objects.specs.Relations.{IsOwned, IsOwnerOf}
use Rattle.named_tables.specs.Oids.{Oids}
use Rattle.object_rows.specs.declared.parts.ColumnPlace.{ColumnPlace}
use Rattle.object_rows.specs.declared.parts.Head.{Head}
use Rattle.object_rows.specs.Heads.{IsHead}
use Rattle.object_rows.specs.Places.{place_or_none, IsOwningColumn}

pub owned : (named : Named) (oids : Oids) (kind : GrantKind) (q : QName) (role : Bytes) (grants : Grants) (head : Head) → get named (key.Owner (object.Relation q)) ≡ Some (value.Owner role) → get named (key.Acl (object.Relation q)) ≡ Some (value.Grants grants) → IsHead oids kind (key.Rel q) q.schema role grants head → IsOwned named oids kind q head.owner head.rights
owned named oids kind q role grants head owner_there grants_there is = record {
  role = role;
  grants = grants;
  owner_there = owner_there;
  grants_there = grants_there;
  owner = sym is.owner;
  rights = is.rights;
}

by_column : (oids : ObjectOids) (v : Value) (owner : Option ColumnPlace) → IsOwningColumn oids (Some v) owner → IsOwnerOf oids (Some v) (place_or_none owner).relation (place_or_none owner).number
by_column oids (value.OwnedBy table column) (Some at) is = (sym is.relation, sym is.number)
by_column oids (value.OwnedBy table column) None is = absurd is
by_column oids (value.Role r) owner is = absurd is
by_column oids (value.Member m) owner is = absurd is
by_column oids value.Schema owner is = absurd is
by_column oids (value.Enum labels) owner is = absurd is
by_column oids (value.Domain d) owner is = absurd is
by_column oids (value.Table columns) owner is = absurd is
by_column oids (value.Sequence s) owner is = absurd is
by_column oids value.View owner is = absurd is
by_column oids (value.IndexOf table) owner is = absurd is
by_column oids (value.Owner role) owner is = absurd is
by_column oids (value.DefaultText text) owner is = absurd is
by_column oids (value.Constraint c) owner is = absurd is
by_column oids (value.Index i) owner is = absurd is
by_column oids (value.Rows rows) owner is = absurd is
by_column oids (value.SequenceValue n called) owner is = absurd is
by_column oids (value.Grants grants) owner is = absurd is
by_column oids (value.Comment text) owner is = absurd is
by_column oids (value.Body body) owner is = absurd is
by_column oids (value.Database encoding) owner is = absurd is

-- the numbers in the row of a sequence are those of the column that owns it
pub by_owner : (oids : ObjectOids) (v : Option Value) (owner : Option ColumnPlace) → IsOwningColumn oids v owner → IsOwnerOf oids v (place_or_none owner).relation (place_or_none owner).number
by_owner oids None None is = refl
by_owner oids None (Some at) is = absurd is
by_owner oids (Some v) owner is = by_column oids v owner is
