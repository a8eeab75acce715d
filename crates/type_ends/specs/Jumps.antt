-- Where chains of domains lead, by the places of their types.
use Rattle.std.specs.Prelude.{◌≡◌, ◌≤◌, ℕ, zero, suc, false, ◌||◌, List, length, map, unwrap_or}
use Rattle.std.specs.List.{slice_get}
use Rattle.type_ends.specs.declared.jumps.Jump.{Jump}

-- no step
abbrev pub stay : ℕ → Jump
stay place = record { place = place; not_null = false }

-- the jump from a place; from one that isn't there it goes nowhere
abbrev pub jump_from : List Jump → ℕ → Jump
jump_from jumps place = unwrap_or (slice_get jumps place) (stay place)

-- one jump and then another
abbrev pub behind : Jump → Jump → Jump
behind first next = record { place = next.place; not_null = next.not_null || first.not_null }

-- twice as many steps at once
abbrev pub doubled : List Jump → List Jump
doubled jumps = map (λ j. behind j (jump_from jumps j.place)) jumps

-- so many single steps, one after another
unfoldable pub trail : List Jump → ℕ → ℕ → Jump
trail steps zero place = stay place
trail steps (suc n) place = behind (jump_from steps place) (trail steps n (jump_from steps place).place)

-- the jumps are of one number of steps, of at least as many as there are types
pub record LeadFar (steps jumps : List Jump) : Type 0 where
  pub count : ℕ
  pub enough : length steps ≤ count
  pub leads : (place : ℕ) → jump_from jumps place ≡ trail steps count place
