-- A step of a tool gives a value or refuses with an outcome, and a tool is its steps one after another.
-- What a call of the code answered is set against what is due.
use Rattle.std.specs.Prelude.{◌≡◌, ℕ, ◌≤◌, List, Result, Ok, Err}
use Rattle.dump_ports.specs.Faults.{HasRisen}
use Rattle.tool_words.specs.declared.outcome.Outcome.{Outcome}
use Rattle.tool_words.specs.declared.outcome.Outcome.TheVariants.{Done, ReadFault, WriteFault, Missing, Memory}

infixl 10 ◌>>=◌
-- the first step that refuses is the answer
abbrev pub ◌>>=◌ : {A B : Type 0} → Result A Outcome → (A → Result B Outcome) → Result B Outcome
(Ok x) >>= f = f x
(Err outcome) >>= f = Err outcome

-- A refusal is the one that is due. Want of memory, and a failed call on the outside, may come at any step.
abbrev pub IsDue : {Y : Type 0} → Outcome → Result Y Outcome → Type 0
IsDue ReadFault due = Unit {0}
IsDue WriteFault due = Unit {0}
IsDue Memory due = Unit {0}
IsDue outcome due = due ≡ Err outcome

-- an answer, seen by view, is the one that is due
abbrev pub Gives : {X Y : Type 0} → (X → Y) → Result X Outcome → Result Y Outcome → Type 0
Gives view (Ok x) due = due ≡ Ok (view x)
Gives view (Err outcome) due = IsDue outcome due

-- the count of read faults rose where the answer is ReadFault, and stayed where it isn't; reading is never a WriteFault
abbrev pub CountsRead : {X : Type 0} → Result X Outcome → ℕ → ℕ → Type 0
CountsRead (Err ReadFault) before after = (before ≤ after) × HasRisen before after
CountsRead (Err WriteFault) before after = ⊥
CountsRead _ before after = after ≡ before

-- the count of write faults rose where the answer is WriteFault, and stayed where it isn't
abbrev pub CountsWrite : {X : Type 0} → Result X Outcome → ℕ → ℕ → Type 0
CountsWrite (Err WriteFault) before after = (before ≤ after) × HasRisen before after
CountsWrite _ before after = after ≡ before

-- a file of this name is absent, or memory ran out
abbrev pub IsMissing : List ℕ → Outcome → Type 0
IsMissing name (Missing path) = path ≡ name
IsMissing name Memory = Unit {0}
IsMissing name outcome = ⊥

-- only want of memory and a failed write may come once nothing is read any more
abbrev pub IsLate : Outcome → Type 0
IsLate WriteFault = Unit {0}
IsLate Memory = Unit {0}
IsLate outcome = ⊥

-- a refusal, or a failed read: nothing was written, and its line was told
abbrev pub IsRefusal : Outcome → Type 0
IsRefusal Done = ⊥
IsRefusal WriteFault = ⊥
IsRefusal Memory = ⊥
IsRefusal outcome = Unit {0}

-- an answer whose line was told whole, and nothing before it
abbrev pub IsTold : Outcome → Type 0
IsTold Done = ⊥
IsTold WriteFault = ⊥
IsTold outcome = Unit {0}

-- an answer by which the work may have ended on its way
abbrev pub IsCutShort : Outcome → Type 0
IsCutShort WriteFault = Unit {0}
IsCutShort Memory = Unit {0}
IsCutShort outcome = ⊥
