-- What a run reads of standard input, where it reads it: all of it within the limit of a script, else some first part.
-- An input is an option: what is left of standard input at the start, or none where the run doesn't read it.
use Rattle.std.specs.Prelude.{◌≡◌, ◌≤◌, ◌++◌, Bool, true, [], length, drop, Option, Some, None, option_map, if◌then◌else◌}
use Rattle.cat_model.specs.Values.{Bytes}
use Rattle.dump_tools.specs.Due.{script_limit}

-- the input, where it is read
abbrev pub where_read : Bool → Bytes → Option Bytes
where_read reads input = if reads then Some input else None

-- what is left of standard input is told, and is this, where it is read
abbrev pub TellsLeft : Bool → Option Bytes → Bytes → Type 0
TellsLeft reads left input = reads ≡ true → left ≡ Some input

-- a text that a run takes of the input: all of it within the limit of a script, else some first part
pub record IsTaken (input text : Bytes) : Type 0 where
  pub rest : Bytes
  pub split : input ≡ text ++ rest
  pub whole : length input ≤ script_limit → rest ≡ []

-- what was left of standard input and what is left of it, once a run has taken such a text
abbrev pub HasTaken : Option Bytes → Option Bytes → Option Bytes → Type 0
HasTaken None before after = after ≡ before
HasTaken (Some input) before after = (text : Bytes) × IsTaken input text × (after ≡ option_map (λ left. drop (length text) left) before)

-- and once some first part of the input was taken
abbrev pub TakesPart : Option Bytes → Option Bytes → Option Bytes → Type 0
TakesPart None before after = after ≡ before
TakesPart (Some input) before after = (front : Bytes) × (rest : Bytes) × (input ≡ front ++ rest) × (after ≡ option_map (λ left. drop (length front) left) before)
