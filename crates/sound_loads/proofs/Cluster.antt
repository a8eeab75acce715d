-- Roles, memberships, databases and schemas of a loaded catalogue are in order, with their owners and grants.
use Rattle.std.proofs.Common.{◌≡◌, true, false, ◌||◌, Option, Some, refl, sym, ap, subst, ◌∙◌}
use Rattle.std.proofs.lemmas.Bool.{or_parts}
use Rattle.cat_rows.specs.declared.catalogue.Catalogue.{Catalogue}
use Rattle.cat_rows.specs.declared.roles.AuthidRow.{AuthidRow}
use Rattle.cat_rows.specs.declared.schemas.NamespaceRow.{NamespaceRow}
use Rattle.cat_model.specs.declared.key.Key.TheVariants as key
use Rattle.cat_model.specs.declared.object.Object.{Object}
use Rattle.cat_model.specs.declared.object.Object.TheVariants as object
use Rattle.cat_model.specs.declared.value.Value.{Value}
use Rattle.cat_model.specs.declared.value.Value.TheVariants as value
use Rattle.cat_model.specs.Lexemes.{same_text}
use Rattle.cat_model.specs.References.{is_system}
use Rattle.cat_model.specs.Values.{Bytes, Named, Grants}
use Rattle.cat_names.specs.declared.rights.GrantKind.{GrantKind}
use Rattle.cat_names.specs.declared.rights.GrantKind.TheVariants as on
use Rattle.cat_names.specs.Grants.{grants_of}
use Rattle.cat_names.specs.Lookups.{role_name, is_role_name}
use Rattle.cat_names.specs.Rights.{is_bad_acl}
use Rattle.plain_tables.specs.Roles.{is_public}
use Rattle.well_formed.specs.Formed.{IsWellFormed}
use Rattle.cat_naming.specs.Relations.{RowsByOid}
use Rattle.cat_naming.specs.Entries.{catalogue_named}
use Rattle.cat_sound.specs.Texts.{Texts}
use Rattle.cat_sound.specs.Asked.{Asked, Meets, IsOther}
use Rattle.cat_sound.specs.Asks.{object_key}
use Rattle.cat_sound.specs.Itself.{has_owner, has_grants, IsRole}
use Rattle.cat_sound.specs.Sound.{IsMet, IsSoundAt}
use Rattle.cat_sound.proofs.NewGrants.{holders_met}
use Rattle.sound_rows.specs.Granted.{AreGranted}
use Rattle.sound_rows.proofs.Among.{each_in}
use Rattle.sound_rows.proofs.Grants.{granted}
use Rattle.sound_rows.proofs.Paths.{one_schema}
use Rattle.sound_loads.specs.Origins.{Origin, OfSchema}
use Rattle.sound_loads.proofs.Standing.{IsThere, met, is_met, role_of_oid, role_named, database_there, database_owner_there, schema_there, schema_owner_there, schema_grants_there}

-- ---- owners and grants of any object

pub owner_sound : (texts : Texts) (named : Named) (o : Object) (owner : Bytes) → has_owner o ≡ true → IsMet named (key.Role owner, Asked.there) → IsMet named (object_key o, Asked.ownable) → IsSoundAt texts named (key.Owner o) (value.Owner owner)
owner_sound texts named o owner has role there = record { own = has; others = (role, (there, tt)) }

pub grants_sound : (texts : Texts) (named : Named) (o : Object) (kind : GrantKind) (cat : Catalogue) (owner : Bytes) (grants : Grants) → has_grants o ≡ true → AreGranted kind cat.pg_authid owner grants
    → IsMet named (object_key o, Asked.takes grants) → IsMet named (key.Owner o, Asked.there)
    → ((name : Bytes) → is_role_name cat.pg_authid name ≡ true → IsMet named (key.Role name, Asked.there))
    → ((name : Bytes) → same_text owner name ≡ false → IsMet named (key.Owner o, Asked.other_owner name))
    → IsSoundAt texts named (key.Acl o) (value.Grants grants)
grants_sound texts named o kind cat owner grants has are takes owned role other = record {
  own = (has, are.items);
  others = (takes, (owned, holders_met named o grants (λ name item is. record { role = role name (are.roles_there name item is); other = other name (are.others name item is) })));
}

-- what an owner of this name is to another name
pub other_owner : (owner name : Bytes) (v : Value) → value.Owner owner ≡ v → same_text owner name ≡ false → IsOther name v
other_owner owner name v is e = subst (IsOther name) is e

-- one name of one role
pub one_name : (o : Option Bytes) (a b : Bytes) → o ≡ Some a → o ≡ Some b → a ≡ b
one_name o a b e f = cc

module _ (texts : Texts) (cat : Catalogue) (rows : RowsByOid) (well : IsWellFormed cat) where
  -- ---- roles and memberships

  pub role_sound : (name : Bytes) (v : Value) → Origin cat rows (key.Role name) v → IsSoundAt texts (catalogue_named cat rows) (key.Role name) v
  role_sound name v from =
      let good : is_public from.row.rolname ≡ false = each_in (λ (r : AuthidRow). is_public r.rolname ≡ false) cat.pg_authid well.roles.texts from.row from.among in
      let named : is_public name ≡ false = subst (λ (n : Bytes). is_public n ≡ false) from.same good in
      record { own = subst (IsRole name) from.is named; others = tt }

  pub member_sound : (role member grantor : Bytes) (v : Value) → Origin cat rows (key.Member role member grantor) v → IsSoundAt texts (catalogue_named cat rows) (key.Member role member grantor) v
  member_sound role member grantor v from = subst (IsSoundAt texts (catalogue_named cat rows) (key.Member role member grantor)) from.is (record {
    own = tt;
    others = (
      is_met cat rows (key.Role role) (role_of_oid cat rows from.row.roleid role from.of_role),
      (
        is_met cat rows (key.Role member) (role_of_oid cat rows from.row.member member from.of_member),
        (is_met cat rows (key.Role grantor) (role_of_oid cat rows from.row.grantor grantor from.by), tt),
      ),
    );
  })

  -- ---- databases

  module _ (name : Bytes) (v : Value) where
    pub database_sound : Origin cat rows (key.Database name) v → IsSoundAt texts (catalogue_named cat rows) (key.Database name) v
    database_sound from = subst (IsSoundAt texts (catalogue_named cat rows) (key.Database name)) from.is (record {
      own = tt;
      others = (
        is_met cat rows (key.Owner (object.Database name)) (subst (λ (n : Bytes). IsThere cat rows (key.Owner (object.Database n))) from.same (database_owner_there cat rows from.row from.among from.owner from.owned)),
        tt,
      );
    })

    pub database_owner_sound : Origin cat rows (key.Owner (object.Database name)) v → IsSoundAt texts (catalogue_named cat rows) (key.Owner (object.Database name)) v
    database_owner_sound from = subst (IsSoundAt texts (catalogue_named cat rows) (key.Owner (object.Database name))) from.is
        (owner_sound texts (catalogue_named cat rows) (object.Database name) from.owner refl (is_met cat rows (key.Role from.owner) (role_of_oid cat rows from.row.datdba from.owner from.owned))
        (met cat rows (key.Database name) Asked.ownable (subst (λ (n : Bytes). IsThere cat rows (key.Database n)) from.same (database_there cat rows from.row from.among from.owner from.owned)) (λ w at. subst (Meets Asked.ownable) at.is refl)))

  -- ---- schemas

  -- schemas of one name have one owner
  one_owner : (name : Bytes) {P Q : NamespaceRow → Bytes → Type 0} → (a : OfSchema cat name P) (b : OfSchema cat name Q) → a.owner ≡ b.owner
  one_owner name a b =
      let same : a.row ≡ b.row = one_schema cat.pg_namespace well.schemas.names a.row b.row a.among b.among (a.same ∙ sym b.same) in
      one_name (role_name cat.pg_authid b.row.nspowner) a.owner b.owner (ap (λ (s : NamespaceRow). role_name cat.pg_authid s.nspowner) (sym same) ∙ a.owned) b.owned

  module _ (name : Bytes) (v : Value) where
    module _ {P : NamespaceRow → Bytes → Type 0} (from : OfSchema cat name P) where
      here : IsThere cat rows (key.Schema name)
      here = subst (λ (n : Bytes). IsThere cat rows (key.Schema n)) from.same (schema_there cat rows from.row from.among from.owner from.owned)

      owner_here : IsThere cat rows (key.Owner (object.Schema name))
      owner_here = subst (λ (n : Bytes). IsThere cat rows (key.Owner (object.Schema n))) from.same (schema_owner_there cat rows from.row from.among from.owner from.owned)

      grants_here : IsThere cat rows (key.Acl (object.Schema name))
      grants_here = subst (λ (n : Bytes). IsThere cat rows (key.Acl (object.Schema n))) from.same (schema_grants_there cat rows from.row from.among from.owner from.owned)

      texts_good : (is_system from.row.nspname ≡ false) × (is_bad_acl on.Schema cat.pg_authid from.row.nspacl ≡ false)
      texts_good =
          or_parts (is_system from.row.nspname) (is_bad_acl on.Schema cat.pg_authid from.row.nspacl)
          (each_in (λ (s : NamespaceRow). (is_system s.nspname || is_bad_acl on.Schema cat.pg_authid s.nspacl) ≡ false) cat.pg_namespace well.schemas.texts from.row from.among)

    pub schema_sound : Origin cat rows (key.Schema name) v → IsSoundAt texts (catalogue_named cat rows) (key.Schema name) v
    schema_sound from = subst (IsSoundAt texts (catalogue_named cat rows) (key.Schema name)) from.is (record {
      own = subst (λ (n : Bytes). is_system n ≡ false) from.same (texts_good from).0;
      others = (is_met cat rows (key.Owner (object.Schema name)) (owner_here from), (is_met cat rows (key.Acl (object.Schema name)) (grants_here from), tt));
    })

    pub schema_owner_sound : Origin cat rows (key.Owner (object.Schema name)) v → IsSoundAt texts (catalogue_named cat rows) (key.Owner (object.Schema name)) v
    schema_owner_sound from = subst (IsSoundAt texts (catalogue_named cat rows) (key.Owner (object.Schema name))) from.is
        (owner_sound texts (catalogue_named cat rows) (object.Schema name) from.owner refl (is_met cat rows (key.Role from.owner) (role_of_oid cat rows from.row.nspowner from.owner from.owned))
        (met cat rows (key.Schema name) Asked.ownable (here from) (λ w at. subst (Meets Asked.ownable) at.is refl)))

    pub schema_grants_sound : Origin cat rows (key.Acl (object.Schema name)) v → IsSoundAt texts (catalogue_named cat rows) (key.Acl (object.Schema name)) v
    schema_grants_sound from =
        let grants = grants_of on.Schema from.owner from.row.nspacl in
        let good = granted on.Schema cat.pg_authid from.owner from.row.nspacl (texts_good from).1 in
        subst (IsSoundAt texts (catalogue_named cat rows) (key.Acl (object.Schema name))) from.is
        (grants_sound texts (catalogue_named cat rows) (object.Schema name) on.Schema cat from.owner grants refl good
        (met cat rows (key.Schema name) (Asked.takes grants) (here from) (λ w at. subst (Meets (Asked.takes grants)) at.is good.within))
        (is_met cat rows (key.Owner (object.Schema name)) (owner_here from))
        (λ role e. is_met cat rows (key.Role role) (role_named cat rows role e))
        (λ role e. met cat rows (key.Owner (object.Schema name)) (Asked.other_owner role) (owner_here from) (λ w at.
        other_owner at.owner role w at.is (subst (λ (n : Bytes). same_text n role ≡ false) (one_owner name from at) e))))
