-- The catalogue by names that a folder of schemas stands for: its one role and its one database, which are those of
-- the empty export, and its schemas. No oid occurs in it.
use Rattle.std.specs.Prelude.{ℕ, Bool, true, List, [], ◌∷◌, Some, None, codes, negsuc}
use Rattle.std.specs.FinMap.{from_entries}
use Rattle.std.specs.List.{list_any}
use Rattle.std.specs.Ordering.{nat_cmp, eq_by_cmp}
use Rattle.cat_model.specs.declared.constraint.Encoding.TheVariants as encoding
use Rattle.cat_model.specs.declared.key.Key.TheVariants as key
use Rattle.cat_model.specs.declared.object.Object.TheVariants as object
use Rattle.cat_model.specs.ObjectEffects.{made}
use Rattle.cat_model.specs.Grants.{owner_only, schema_rights}
use Rattle.cat_model.specs.Trees.{Change, changed}
use Rattle.cat_model.specs.declared.value.Value.TheVariants as value
use Rattle.cat_model.specs.declared.value.Role.{Role}
use Rattle.cat_model.specs.Values.{Bytes, bytes_cmp, Named}
use Rattle.schema_folders.specs.declared.schemas.SchemaRow.{SchemaRow}

-- the name of the role of oid 10
abbrev pub boot : Bytes
boot = codes "postgres"

-- it may do anything, without a limit on connections, a password or an end
abbrev pub boot_role : Role
boot_role = record {
  superuser = true;
  inherit = true;
  create_role = true;
  create_db = true;
  login = true;
  replication = true;
  bypass_rls = true;
  limit = negsuc 0;
  password = None;
  valid_until = None;
}

-- the role, and the database that it owns
abbrev pub cluster : Named
cluster = from_entries ((key.Role boot, value.Role boot_role) ∷ (key.Database boot, value.Database encoding.Utf8) ∷ (key.Owner (object.Database boot), value.Owner boot) ∷ [])

-- a schema, its owner and its grants
abbrev pub schema_changes : Bytes → List Change
schema_changes name = (key.Schema name, Some value.Schema) ∷ made (object.Schema name) boot (owner_only schema_rights)

-- a catalogue with these schemas too
abbrev pub with_schemas : Named → List SchemaRow → Named
with_schemas named [] = named
with_schemas named (row ∷ rows) = with_schemas (changed (schema_changes row.name) named) rows

-- what the rows of a folder of schemas stand for
abbrev pub named : List SchemaRow → Named
named rows = with_schemas cluster rows

-- whether one of the rows has this name
abbrev pub has_name : Bytes → List SchemaRow → Bool
has_name name rows = list_any (λ row. eq_by_cmp bytes_cmp row.name name) rows

abbrev pub has_oid : ℕ → List SchemaRow → Bool
has_oid oid rows = list_any (λ row. eq_by_cmp nat_cmp row.oid oid) rows
