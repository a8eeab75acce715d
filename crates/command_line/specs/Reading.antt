-- How the words are read, one after another: each in a state that the one before left, and what it says.
-- 45 is `-`, 61 is `=`.
use Rattle.std.specs.Prelude.{ℕ, ◌+◌, Bool, ◌==◌, nat_lt, List, [], ◌∷◌, length, Option, Some, None, if◌then◌else◌}
use Rattle.std.specs.List.{position_or_len, before_first, after_first}
use Rattle.command_line.specs.declared.options.Tool.{Tool}
use Rattle.command_line.specs.declared.options.Opt.{Opt}
use Rattle.command_line.specs.declared.options.Takes.{Takes}
use Rattle.command_line.specs.declared.options.Takes.TheVariants.{Lacking, LeftOut, Flag, Value}
use Rattle.command_line.specs.declared.options.ValueKind.{ValueKind}
use Rattle.command_line.specs.declared.usage.UsageKind.{UsageKind}
use Rattle.command_line.specs.declared.usage.UsageKind.TheVariants.{OutOfProfile, UnknownOption, MissingValue, BadValue}
use Rattle.command_line.specs.Options.{takes}
use Rattle.command_line.specs.Spellings.{option_of_letter, option_of_name}
use Rattle.command_line.specs.Values.{value_fault}

-- what the words before leave for the next one
pub data State : Type 0 where
  -- it may be an option
  Plain : State
  -- it is the value of this option, which stands at this word
  Wants : ℕ → Opt → ValueKind → State
  -- it is no option: `--` has come
  Ended : State

-- what the words say, in order, up to their end or to the first word that can't be read
pub data Reading : Type 0 where
  Done : Reading
  Fails : ℕ → UsageKind → Reading
  -- an option at this word, with its value; nothing where it takes none
  Given : ℕ → Opt → List ℕ → Reading → Reading
  -- another word
  Other : ℕ → List ℕ → Reading → Reading

abbrev pub or_fails : Option UsageKind → ℕ → Reading → Reading
or_fails None at reading = reading
or_fails (Some kind) at reading = Fails at kind

-- an option's value, which stands in the word `at`
abbrev pub value_read : ℕ → ℕ → Opt → ValueKind → List ℕ → Reading → Reading
value_read word at option kind value later = or_fails (value_fault kind value) at (Given word option value later)

-- Letters, one by one: one with a value takes the rest of the word, or the next word where nothing is left.
abbrev pub letter_read : ℕ → Option Opt → Takes → List ℕ → (State → Reading) → Reading → Reading
letter_read at None taken rest next later = Fails at UnknownOption
letter_read at (Some option) Lacking rest next later = Fails at UnknownOption
letter_read at (Some option) LeftOut rest next later = Fails at OutOfProfile
letter_read at (Some option) Flag rest next later = Given at option [] later
letter_read at (Some option) (Value kind) [] next later = next (Wants at option kind)
letter_read at (Some option) (Value kind) (b ∷ rest) next later = value_read at at option kind (b ∷ rest) (next Plain)

-- what a tool takes of an option, if there is one
abbrev pub taken_of : Tool → Option Opt → Takes
taken_of tool None = Lacking
taken_of tool (Some option) = takes tool option

abbrev pub letters_read : Tool → ℕ → List ℕ → (State → Reading) → Reading
letters_read tool at [] next = next Plain
letters_read tool at (b ∷ rest) next = letter_read at (option_of_letter tool b) (taken_of tool (option_of_letter tool b)) rest next (letters_read tool at rest next)

-- A long name: its value follows behind `=`, or is the next word.
abbrev pub name_read : ℕ → Option Opt → Takes → Option (List ℕ) → (State → Reading) → Reading
name_read at None taken value next = Fails at UnknownOption
name_read at (Some option) Lacking value next = Fails at UnknownOption
name_read at (Some option) LeftOut value next = Fails at OutOfProfile
name_read at (Some option) Flag None next = Given at option [] (next Plain)
name_read at (Some option) Flag (Some value) next = Fails at BadValue
name_read at (Some option) (Value kind) None next = next (Wants at option kind)
name_read at (Some option) (Value kind) (Some value) next = value_read at at option kind value (next Plain)

abbrev pub is_equals : ℕ → Bool
is_equals b = b == 61

abbrev pub has_equals : List ℕ → Bool
has_equals text = nat_lt (position_or_len is_equals text) (length text)

abbrev pub name_of : List ℕ → List ℕ
name_of text = if has_equals text then before_first is_equals text else text

abbrev pub value_of : List ℕ → Option (List ℕ)
value_of text = if has_equals text then Some (after_first is_equals text) else None

abbrev pub long_read : Tool → ℕ → List ℕ → (State → Reading) → Reading
long_read tool at text next =
    let option = option_of_name tool (name_of text) in
    name_read at option (taken_of tool option) (value_of text) next

-- a word where an option may stand
pub data Word : Type 0 where
  -- `--`
  Ends : Word
  -- a long name, which `--` stands before
  Long : List ℕ → Word
  -- letters, which `-` stands before
  Short : List ℕ → Word
  -- no option
  Bare : Word

abbrev pub behind_dashes : List ℕ → Word
behind_dashes [] = Ends
behind_dashes (b ∷ rest) = Long (b ∷ rest)

abbrev pub word_of : List ℕ → Word
word_of [] = Bare
word_of (a ∷ []) = Bare
word_of (a ∷ b ∷ rest) = if a == 45 then (if b == 45 then behind_dashes rest else Short (b ∷ rest)) else Bare

abbrev pub plain_read : Tool → ℕ → List ℕ → Word → (State → Reading) → Reading
plain_read tool at text Ends next = next Ended
plain_read tool at text (Long name) next = long_read tool at name next
plain_read tool at text (Short letters) next = letters_read tool at letters next
plain_read tool at text Bare next = Other at text (next Plain)

-- one word
abbrev pub word_read : Tool → State → ℕ → List ℕ → (State → Reading) → Reading
word_read tool Plain at text next = plain_read tool at text (word_of text) next
word_read tool (Wants word option kind) at text next = value_read word at option kind text (next Plain)
word_read tool Ended at text next = Other at text (next Ended)

-- where the words end, a value may be missing
abbrev pub end_read : State → ℕ → Reading
end_read Plain at = Done
end_read (Wants word option kind) at = Fails at MissingValue
end_read Ended at = Done

-- the words from a number on
unfoldable pub words_read : Tool → State → ℕ → List (List ℕ) → Reading
words_read tool state at [] = end_read state at
words_read tool state at (text ∷ words) = word_read tool state at text (λ state. words_read tool state (at + 1) words)
