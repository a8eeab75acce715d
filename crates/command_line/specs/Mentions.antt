-- What was said of an option, and the other words.
use Rattle.std.specs.Prelude.{ℕ, ◌+◌, ◌-◌, Bool, ◌==◌, List, [], ◌∷◌, Option, Some, None, is_some, if◌then◌else◌}
use Rattle.command_line.specs.declared.options.Opt.{Opt}
use Rattle.command_line.specs.declared.usage.UsageFault.{UsageFault}
use Rattle.command_line.specs.Options.{is_same}
use Rattle.command_line.specs.Reading.{Reading, Done, Fails, Given, Other}

-- a word, and the value or the text there
pub record Place : Type 0 where
  pub word : ℕ
  pub value : List ℕ

-- the first word that can't be read
abbrev pub fault_of : Reading → Option UsageFault
fault_of Done = None
fault_of (Fails at kind) = Some (record { word = at; kind = kind })
fault_of (Given word option value later) = fault_of later
fault_of (Other word text later) = fault_of later

-- the last mention of an option, where this was one before
abbrev pub last_from : Opt → Option Place → Reading → Option Place
last_from wanted before Done = before
last_from wanted before (Fails at kind) = before
last_from wanted before (Given word option value later) =
    last_from wanted (if is_same option wanted then Some (record { word = word; value = value }) else before) later
last_from wanted before (Other word text later) = last_from wanted before later

unfoldable pub last_of : Opt → Reading → Option Place
last_of wanted reading = last_from wanted None reading

abbrev pub is_given : Opt → Reading → Bool
is_given wanted reading = is_some (last_of wanted reading)

-- all values of an option, in order
unfoldable pub values_of : Opt → Reading → List (List ℕ)
values_of wanted Done = []
values_of wanted (Fails at kind) = []
values_of wanted (Given word option value later) = if is_same option wanted then value ∷ values_of wanted later else values_of wanted later
values_of wanted (Other word text later) = values_of wanted later

-- another word by its number among these, from 0
unfoldable pub other_of : ℕ → Reading → Option Place
other_of n Done = None
other_of n (Fails at kind) = None
other_of n (Given word option value later) = other_of n later
other_of n (Other word text later) = if n == 0 then Some (record { word = word; value = text }) else other_of (n - 1) later

-- how much there is to read
abbrev pub size_of : Reading → ℕ
size_of Done = 0
size_of (Fails at kind) = 0
size_of (Given word option value later) = size_of later + 1
size_of (Other word text later) = size_of later + 1
