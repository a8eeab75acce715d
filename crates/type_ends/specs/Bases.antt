-- What is found at the end of a chain.
use Rattle.std.specs.Prelude.{Bool, List, Option, option_map, option_and_then}
use Rattle.std.specs.List.{slice_get}
use Rattle.cat_model.specs.declared.value.Resolved.{Resolved}
use Rattle.type_ends.specs.declared.ends.Base.{Base}
use Rattle.type_ends.specs.declared.jumps.Jump.{Jump}

-- a base at the end of a chain, and whether a domain of the chain takes no null
abbrev pub end_with : Bool → Base → Resolved
end_with not_null base = record { type_name = base.type_name; labels = base.labels; not_null = not_null }

-- the end to which a jump leads
abbrev pub end_at : List (Option Base) → Jump → Option Resolved
end_at bases jump = option_map (end_with jump.not_null) (option_and_then (λ b. b) (slice_get bases jump.place))
