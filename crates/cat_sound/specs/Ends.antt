-- What a type comes to when its chain of domains is followed by names.
use Rattle.std.specs.Prelude.{ℕ, zero, suc, false, ◌||◌, Option, Some, None, if◌then◌else◌}
use Rattle.std.specs.Option.{option_map}
use Rattle.std.specs.FinMap.{get}
use Rattle.cat_model.specs.declared.object.QName.{QName}
use Rattle.cat_model.specs.declared.key.Key.TheVariants as key
use Rattle.cat_model.specs.declared.type_name.TypeName.{TypeName}
use Rattle.cat_model.specs.declared.type_name.TypeName.TheVariants.{Words, Path}
use Rattle.cat_model.specs.declared.value.Value.{Value}
use Rattle.cat_model.specs.declared.value.Value.TheVariants as value
use Rattle.cat_model.specs.declared.value.Resolved.{Resolved}
use Rattle.cat_model.specs.declared.value.Domain.{Domain}
use Rattle.cat_model.specs.References.{is_system}
use Rattle.cat_model.specs.TypeEffects.{as_it_is}
use Rattle.cat_model.specs.Values.{Named}

-- a domain takes no null where it says so, or where its base takes none
abbrev pub over : Domain → Resolved → Resolved
over d base = record base { not_null = base.not_null || d.not_null }

-- an enum has its labels, and a domain is what its base is
abbrev pub through : (TypeName → Option Resolved) → QName → Option Value → Option Resolved
through later q (Some (value.Enum labels)) = Some (record { type_name = Path q; labels = Some labels; not_null = false })
through later q (Some (value.Domain d)) = option_map (over d) (later d.base)
through later q _ = None

-- words, and types of the system's own, are what they are; others are looked up, with at most n in a chain
abbrev pub followed : ℕ → Named → TypeName → Option Resolved
followed zero named (Words text) = Some (as_it_is (Words text))
followed zero named (Path q) = if is_system q.schema then Some (as_it_is (Path q)) else None
followed (suc n) named (Words text) = Some (as_it_is (Words text))
followed (suc n) named (Path q) = if is_system q.schema then Some (as_it_is (Path q)) else through (followed n named) q (get named (key.UserType q))
