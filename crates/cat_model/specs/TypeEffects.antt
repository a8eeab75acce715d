-- The effects of statements about enums and domains, and what a type is at the end of its chain of domains.
use Rattle.std.specs.Prelude.{Bool, false, ◌||◌, not, List, [], ◌∷◌, map, Option, Some, None, if◌then◌else◌}
use Rattle.std.specs.Ordering.{eq_by_cmp}
use Rattle.std.specs.List.{filter, flat_map}
use Rattle.std.specs.FinMap.{contains_key, insert, from_entries}
use Rattle.cat_model.specs.declared.object.QName.{QName}
use Rattle.cat_model.specs.declared.object.Object.TheVariants as object
use Rattle.cat_model.specs.declared.key.Key.{Key}
use Rattle.cat_model.specs.declared.key.Key.TheVariants as key
use Rattle.cat_model.specs.declared.cause.Cause.TheVariants as cause
use Rattle.cat_model.specs.declared.type_name.TypeName.{TypeName}
use Rattle.cat_model.specs.declared.type_name.TypeName.TheVariants.{Words, Path}
use Rattle.cat_model.specs.declared.table.CheckDef.{CheckDef}
use Rattle.cat_model.specs.Keys.{key_cmp}
use Rattle.cat_model.specs.Values as value
use Rattle.cat_model.specs.Values.{Bytes, bytes_cmp, Value, Resolved, Domain}
use Rattle.cat_model.specs.Grants.{type_grants}
use Rattle.cat_model.specs.Tables.{distinct}
use Rattle.cat_model.specs.References.{is_system, expression_references}
use Rattle.cat_model.specs.Trees.{Tree, refuse, sets, look}
use Rattle.cat_model.specs.Conditions.{needs, needs_each, needs_domain, free, check}
use Rattle.cat_model.specs.ObjectEffects.{made}

-- ---- types

abbrev pub as_it_is : TypeName → Resolved
as_it_is type = record { type_name = type; labels = None; not_null = false }

abbrev pub if_type : QName → (Resolved → Tree) → Option Value → Tree
if_type q next (Some (value.enum labels)) = next (record { type_name = Path q; labels = Some labels; not_null = false })
if_type q next (Some (value.domain d)) = next (record d.resolved { not_null = d.resolved.not_null || d.not_null })
if_type q next _ = refuse (cause.Absent (key.UserType q))

-- an enum or a domain is there, else Absent; any other type is what it is
abbrev pub needs_type : TypeName → (Resolved → Tree) → Tree
needs_type (Words text) next = next (as_it_is (Words text))
needs_type (Path q) next = if is_system q.schema then next (as_it_is (Path q)) else look (key.UserType q) (if_type q next)

-- ---- references

-- all of the keys but one
abbrev pub but : Key → List Key → List Key
but k keys = filter (λ j. not (eq_by_cmp key_cmp k j)) keys

abbrev pub default_references : Option Bytes → List Key
default_references None = []
default_references (Some text) = expression_references text

abbrev pub check_references : List CheckDef → List Key
check_references checks = flat_map (λ c. expression_references c.text) checks

-- ---- statements

abbrev pub create_enum : Bytes → QName → List Bytes → Tree
create_enum boot q labels =
    needs (key.Schema q.schema)
    (free (key.UserType q)
    (check (distinct labels) (cause.Exists (key.UserType q))
    (sets ((key.UserType q, Some (value.enum labels)) ∷ made (object.Type q) boot type_grants))))

-- the checks may name the domain itself; its base and its default may not
abbrev pub create_domain : Bytes → QName → TypeName → Bool → Option Bytes → List CheckDef → Tree
create_domain boot q base not_null default checks =
    needs (key.Schema q.schema)
    (free (key.UserType q)
    (check (distinct (map (λ c. c.name) checks)) (cause.Exists (key.UserType q))
    (needs_type base (λ resolved.
    needs_each (default_references default)
    (needs_each (but (key.UserType q) (check_references checks))
    (sets ((key.UserType q, Some (value.domain (record { base = base; resolved = resolved; not_null = not_null; default = default; checks = from_entries (map (λ c. (c.name, c.text)) checks) })))
    ∷ made (object.Type q) boot type_grants)))))))

abbrev pub add_domain_check : QName → Bytes → Bytes → Tree
add_domain_check q name text =
    needs_domain q (λ d.
    check (not (contains_key d.checks name)) (cause.Exists (key.UserType q))
    (needs_each (expression_references text)
    (sets ((key.UserType q, Some (value.domain (record d { checks = insert d.checks name text }))) ∷ []))))
