-- Roles, memberships, databases and schemas: the entries that say them, and their rows.
use Rattle.std.proofs.Common.{◌≡◌, List, Option, Some, option_map, filter_map, refl, ap, subst, ◌∙◌}
use Rattle.std.proofs.lemmas.Option.{none-some}
use Rattle.std.specs.FinMap.{get, entries}
use Rattle.cat_rows.specs.declared.roles.AuthidRow.{AuthidRow}
use Rattle.cat_rows.specs.declared.roles.AuthMembersRow.{AuthMembersRow}
use Rattle.cat_rows.specs.declared.roles.DatabaseRow.{DatabaseRow}
use Rattle.cat_rows.specs.declared.schemas.NamespaceRow.{NamespaceRow}
use Rattle.cat_model.specs.declared.constraint.Encoding.TheVariants as encoding
use Rattle.cat_model.specs.declared.object.Object.TheVariants as object
use Rattle.cat_model.specs.declared.key.Key.TheVariants as key
use Rattle.cat_model.specs.declared.value.Value.{Value}
use Rattle.cat_model.specs.declared.value.Value.TheVariants as value
use Rattle.cat_model.specs.Values.{Bytes, Named, Grants}
use Rattle.cat_names.specs.Naming.{Entry}
use Rattle.named_tables.specs.Cluster.{NamedRole, IsRole, role_row, NamedMember, IsMember, member_row, NamedDatabase, IsDatabase, database_row, NamedSchema, IsSchema, IsSchemaRow}
use Rattle.named_tables.specs.Oids.{Oids, AreOids}
use Rattle.named_tables.specs.Standing.{AreRowsOf}
use Rattle.map_export.specs.Making.{AreSaid}
use Rattle.map_export.specs.Things.{owner_in, grants_in, both, role_in, member_in, database_in, schema_in}
use Rattle.map_export.proofs.Named.{same_thing, stand_for}

module _ (named : Named) where
  -- ---- what says which

  is_role : (e : Entry) (r : NamedRole) → get named e.0 ≡ Some e.1 → role_in e ≡ Some r → IsRole named r × (key.Role r.name ≡ e.0)
  is_role (key.Role name, value.Role role) r there says =
      subst (λ (s : NamedRole). IsRole named s × (key.Role s.name ≡ key.Role name)) (same_thing (record { name = name; role = role }) r says) (there, refl)
  is_role e r there says = absurd (none-some r says)

  is_member : (e : Entry) (m : NamedMember) → get named e.0 ≡ Some e.1 → member_in e ≡ Some m → IsMember named m × (key.Member m.role m.member m.grantor ≡ e.0)
  is_member (key.Member role member grantor, value.Member options) m there says =
      subst (λ (n : NamedMember). IsMember named n × (key.Member n.role n.member n.grantor ≡ key.Member role member grantor)) (same_thing (record { role = role; member = member; grantor = grantor; options = options }) m says) (there, refl)
  is_member e m there says = absurd (none-some m says)

  owned_database : (name : Bytes) (d : NamedDatabase) → get named (key.Database name) ≡ Some (value.Database encoding.Utf8) → (o : Option Value) → get named (key.Owner (object.Database name)) ≡ o → option_map (λ (owner : Bytes). record { name = name; owner = owner }) (owner_in o) ≡ Some d → IsDatabase named d × (key.Database d.name ≡ key.Database name)
  owned_database name d there (Some (value.Owner owner)) at says =
      subst (λ (e : NamedDatabase). IsDatabase named e × (key.Database e.name ≡ key.Database name)) (same_thing (record { name = name; owner = owner }) d says) (record { there = there; owner = at }, refl)
  owned_database name d there o at says = absurd (none-some d says)

  is_database : (e : Entry) (d : NamedDatabase) → get named e.0 ≡ Some e.1 → database_in named e ≡ Some d → IsDatabase named d × (key.Database d.name ≡ e.0)
  is_database (key.Database name, value.Database encoding.Utf8) d there says = owned_database name d there (get named (key.Owner (object.Database name))) refl says
  is_database e d there says = absurd (none-some d says)

  abbrev schema_of : Bytes → Bytes → Grants → NamedSchema
  schema_of name owner grants = record { name = name; owner = owner; grants = grants }

  owned_schema : (name : Bytes) (s : NamedSchema) → get named (key.Schema name) ≡ Some value.Schema → (o p : Option Value) → get named (key.Owner (object.Schema name)) ≡ o → get named (key.Acl (object.Schema name)) ≡ p → both (schema_of name) (owner_in o) (grants_in p) ≡ Some s → IsSchema named s × (key.Schema s.name ≡ key.Schema name)
  owned_schema name s there (Some (value.Owner owner)) (Some (value.Grants grants)) at on says =
      subst (λ (t : NamedSchema). IsSchema named t × (key.Schema t.name ≡ key.Schema name)) (same_thing (record { name = name; owner = owner; grants = grants }) s says) (record { there = there; owner = at; grants = on }, refl)
  owned_schema name s there (Some (value.Owner owner)) p at on says = absurd (none-some s says)
  owned_schema name s there o p at on says = absurd (none-some s says)

  is_schema : (e : Entry) (s : NamedSchema) → get named e.0 ≡ Some e.1 → schema_in named e ≡ Some s → IsSchema named s × (key.Schema s.name ≡ e.0)
  is_schema (key.Schema name, value.Schema) s there says = owned_schema name s there (get named (key.Owner (object.Schema name))) (get named (key.Acl (object.Schema name))) refl refl says
  is_schema e s there says = absurd (none-some s says)

  -- ---- their rows

  module _ (oids : Oids) (own : AreOids named oids) where
    pub roles_stand : (rows : List AuthidRow) → AreSaid (λ r row. row ≡ role_row oids r) (filter_map role_in (entries named)) rows → AreRowsOf (IsRole named) (λ r row. row ≡ role_row oids r) rows
    roles_stand rows said =
        stand_for named (IsRole named) (λ r row. row ≡ role_row oids r) (λ r. key.Role r.name) (λ row. row.oid) (λ r. oids (key.Role r.name))
        (λ r row is. ap (λ (row : AuthidRow). row.oid) is)
        (λ r s one two same. own.apart (key.Role r.name) (key.Role s.name) (value.Role r.role) (value.Role s.role) one two refl refl refl same)
        role_in
        (λ r there. (value.Role r.role, there, refl))
        is_role rows said

    pub members_stand : (rows : List AuthMembersRow) → AreSaid (λ m row. row ≡ member_row oids m) (filter_map member_in (entries named)) rows → AreRowsOf (IsMember named) (λ m row. row ≡ member_row oids m) rows
    members_stand rows said =
        stand_for named (IsMember named) (λ m row. row ≡ member_row oids m) (λ m. key.Member m.role m.member m.grantor) (λ row. row.oid) (λ m. oids (key.Member m.role m.member m.grantor))
        (λ m row is. ap (λ (row : AuthMembersRow). row.oid) is)
        (λ m n one two same. own.apart (key.Member m.role m.member m.grantor) (key.Member n.role n.member n.grantor) (value.Member m.options) (value.Member n.options) one two refl refl refl same)
        member_in
        (λ m there. (value.Member m.options, there, refl))
        is_member rows said

    pub databases_stand : (current : Bytes) (rows : List DatabaseRow) → AreSaid (λ d row. row ≡ database_row oids current d) (filter_map (database_in named) (entries named)) rows → AreRowsOf (IsDatabase named) (λ d row. row ≡ database_row oids current d) rows
    databases_stand current rows said =
        stand_for named (IsDatabase named) (λ d row. row ≡ database_row oids current d) (λ d. key.Database d.name) (λ row. row.oid) (λ d. oids (key.Database d.name))
        (λ d row is. ap (λ (row : DatabaseRow). row.oid) is)
        (λ d e one two same. own.apart (key.Database d.name) (key.Database e.name) (value.Database encoding.Utf8) (value.Database encoding.Utf8) one.there two.there refl refl refl same)
        (database_in named)
        (λ d there. (value.Database encoding.Utf8, there.there, ap (λ (o : Option Value). option_map (λ (owner : Bytes). record { name = d.name; owner = owner }) (owner_in o)) there.owner))
        is_database rows said

    pub schemas_stand : (rows : List NamespaceRow) → AreSaid (IsSchemaRow oids) (filter_map (schema_in named) (entries named)) rows → AreRowsOf (IsSchema named) (IsSchemaRow oids) rows
    schemas_stand rows said =
        stand_for named (IsSchema named) (IsSchemaRow oids) (λ s. key.Schema s.name) (λ row. row.oid) (λ s. oids (key.Schema s.name))
        (λ s row is. is.oid)
        (λ s t one two same. own.apart (key.Schema s.name) (key.Schema t.name) value.Schema value.Schema one.there two.there refl refl refl same)
        (schema_in named)
        (λ s there. (value.Schema, there.there, ap (λ (o : Option Value). both (schema_of s.name) (owner_in o) (grants_in (get named (key.Acl (object.Schema s.name))))) there.owner ∙ ap (λ (o : Option Value). both (schema_of s.name) (Some s.owner) (grants_in o)) there.grants))
        is_schema rows said
