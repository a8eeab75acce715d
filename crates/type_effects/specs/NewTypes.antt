-- What is left of CREATE TYPE and of CREATE DOMAIN behind each of their conditions.
use Rattle.std.specs.Prelude.{Bool, List, ◌∷◌, map, Option, Some}
use Rattle.std.specs.FinMap.{from_entries}
use Rattle.cat_model.specs.declared.cause.Cause.TheVariants as cause
use Rattle.cat_model.specs.declared.object.QName.{QName}
use Rattle.cat_model.specs.declared.type_name.TypeName.{TypeName}
use Rattle.cat_model.specs.declared.table.CheckDef.{CheckDef}
use Rattle.cat_model.specs.declared.key.Key.TheVariants as key
use Rattle.cat_model.specs.declared.object.Object.TheVariants as object
use Rattle.cat_model.specs.declared.value.Domain.{Domain}
use Rattle.cat_model.specs.declared.value.Resolved.{Resolved}
use Rattle.cat_model.specs.declared.value.Value.TheVariants as value
use Rattle.cat_model.specs.Values.{Bytes}
use Rattle.cat_model.specs.Conditions.{check, free, needs_each}
use Rattle.cat_model.specs.Grants.{type_grants}
use Rattle.cat_model.specs.ObjectEffects.{made}
use Rattle.cat_model.specs.Tables.{distinct}
use Rattle.cat_model.specs.Trees.{Tree, Change, sets}
use Rattle.cat_model.specs.TypeEffects.{needs_type, but, default_references, check_references}

-- ---- enums

abbrev pub enum_changes : Bytes → QName → List Bytes → List Change
enum_changes boot q labels = (key.UserType q, Some (value.Enum labels)) ∷ made (object.Type q) boot type_grants

-- behind the schema
abbrev pub enum_here : Bytes → QName → List Bytes → Tree
enum_here boot q labels =
    free (key.UserType q)
    (check (distinct labels) (cause.Exists (key.UserType q))
    (sets (enum_changes boot q labels)))

-- ---- domains

abbrev pub domain_of : TypeName → Bool → Option Bytes → List CheckDef → Resolved → Domain
domain_of base not_null default checks resolved =
    record { base = base; resolved = resolved; not_null = not_null; default = default; checks = from_entries (map (λ c. (c.name, c.text)) checks) }

abbrev pub domain_changes : Bytes → QName → TypeName → Bool → Option Bytes → List CheckDef → Resolved → List Change
domain_changes boot q base not_null default checks resolved =
    (key.UserType q, Some (value.Domain (domain_of base not_null default checks resolved)))
    ∷ made (object.Type q) boot type_grants

-- behind the base, which is resolved
abbrev pub domain_made : Bytes → QName → TypeName → Bool → Option Bytes → List CheckDef → Resolved → Tree
domain_made boot q base not_null default checks resolved =
    needs_each (default_references default)
    (needs_each (but (key.UserType q) (check_references checks))
    (sets (domain_changes boot q base not_null default checks resolved)))

-- behind the schema
abbrev pub domain_here : Bytes → QName → TypeName → Bool → Option Bytes → List CheckDef → Tree
domain_here boot q base not_null default checks =
    free (key.UserType q)
    (check (distinct (map (λ c. c.name) checks)) (cause.Exists (key.UserType q))
    (needs_type base (domain_made boot q base not_null default checks)))
