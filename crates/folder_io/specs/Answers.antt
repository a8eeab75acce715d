-- A step gives a value or refuses with a fault, and reading is its steps one after another. What a call of the code
-- answered is set against what is due.
use Rattle.std.specs.Prelude.{◌≡◌, ℕ, ◌≤◌, List, [], ◌∷◌, Result, Ok, Err}
use Rattle.dump_ports.specs.Faults.{HasRisen}
use Rattle.folder_io.specs.declared.fault.FolderFault.{FolderFault}
use Rattle.folder_io.specs.declared.fault.FolderFault.TheVariants.{Failed, Missing, Memory}

infixl 10 ◌>>=◌
-- the first step that refuses is the answer
abbrev pub ◌>>=◌ : {A B : Type 0} → Result A FolderFault → (A → Result B FolderFault) → Result B FolderFault
(Ok x) >>= f = f x
(Err fault) >>= f = Err fault

-- what a step gives for each of these, in their order; the first that it refuses is the answer
unfoldable pub each_of : {A B : Type 0} → (A → Result B FolderFault) → List A → Result (List B) FolderFault
each_of step [] = Ok []
each_of step (x ∷ xs) = do
  y ← step x
  ys ← each_of step xs
  Ok (y ∷ ys)

-- A refusal is the one that is due. Want of memory, and a failed call on the outside, may come at any step.
abbrev pub IsDue : {Y : Type 0} → FolderFault → Result Y FolderFault → Type 0
IsDue Failed due = Unit {0}
IsDue Memory due = Unit {0}
IsDue fault due = due ≡ Err fault

-- an answer, seen by view, is the one that is due
abbrev pub Gives : {X Y : Type 0} → (X → Y) → Result X FolderFault → Result Y FolderFault → Type 0
Gives view (Ok x) due = due ≡ Ok (view x)
Gives view (Err fault) due = IsDue fault due

-- the count of read faults rose where the answer is Failed, and stayed where it isn't
abbrev pub CountsRead : {X : Type 0} → Result X FolderFault → ℕ → ℕ → Type 0
CountsRead (Err Failed) before after = (before ≤ after) × HasRisen before after
CountsRead _ before after = after ≡ before

-- an answer that comes without a call of the files
abbrev pub IsCallFree : FolderFault → Type 0
IsCallFree Failed = ⊥
IsCallFree fault = Unit {0}

-- a file of this name is absent, or memory ran out
abbrev pub IsMissing : List ℕ → FolderFault → Type 0
IsMissing name (Missing path) = path ≡ name
IsMissing name Memory = Unit {0}
IsMissing name fault = ⊥
