-- That a word is the first that can't be read.
use Rattle.std.specs.Prelude.{◌≡◌, ⊤, ℕ, ◌+◌, List, ◌∷◌, ◌++◌, length, Option, Some, None}
use Rattle.command_line.specs.declared.options.Tool.{Tool}
use Rattle.command_line.specs.declared.usage.UsageFault.{UsageFault}
use Rattle.command_line.specs.declared.usage.UsageKind.TheVariants.{MissingValue}
use Rattle.command_line.specs.Reading.{State, words_read}
use Rattle.command_line.specs.Mentions.{fault_of}

-- nothing is wrong, but that a value may be missing at the end
abbrev pub IsOpen : Option UsageFault → Type 0
IsOpen None = ⊤
IsOpen (Some fault) = fault.kind ≡ MissingValue

-- a word fails whatever follows it, and the words before it don't
pub record FailsFirst (tool : Tool) (state : State) (at : ℕ) (words : List (List ℕ)) (fault : UsageFault) : Type 0 where
  pub front : List (List ℕ)
  pub word : List ℕ
  pub rest : List (List ℕ)
  pub split : words ≡ front ++ word ∷ rest
  pub place : fault.word ≡ at + length front
  pub before : IsOpen (fault_of (words_read tool state at front))
  pub whatever : (others : List (List ℕ)) → fault_of (words_read tool state at (front ++ word ∷ others)) ≡ Some fault

-- the words end before a value
pub record EndsEarly (at : ℕ) (words : List (List ℕ)) (fault : UsageFault) : Type 0 where
  pub kind : fault.kind ≡ MissingValue
  pub place : fault.word ≡ at + length words
