-- Each word fails by itself or goes on in some state, whatever follows it.
use Rattle.std.proofs.Common.{◌≡◌, ℕ, ◌+◌, List, [], ◌∷◌, ◌++◌, Option, Some, None, refl, sym, ap, ◌∙◌, subst, arith, ◌⊎◌, inl, inr}
use Rattle.command_line.specs.declared.options.Tool.{Tool}
use Rattle.command_line.specs.declared.options.Opt.{Opt}
use Rattle.command_line.specs.declared.options.Takes.{Takes}
use Rattle.command_line.specs.declared.options.Takes.TheVariants.{Lacking, LeftOut, Flag, Value}
use Rattle.command_line.specs.declared.options.ValueKind.{ValueKind}
use Rattle.command_line.specs.declared.usage.UsageFault.{UsageFault}
use Rattle.command_line.specs.declared.usage.UsageKind.{UsageKind}
use Rattle.command_line.specs.declared.usage.UsageKind.TheVariants as kinds
use Rattle.command_line.specs.Spellings.{option_of_letter, option_of_name}
use Rattle.command_line.specs.Values.{value_fault}
use Rattle.command_line.specs.Reading.{State, Plain, Wants, Ended, Reading, Given, or_fails, value_read, letter_read, taken_of, letters_read, name_read, name_of, value_of, Word, Ends, Long, Short, Bare, word_of, plain_read, word_read, end_read, words_read}
use Rattle.command_line.specs.Mentions.{fault_of}
use Rattle.command_line.specs.Checks.{fault_at}
use Rattle.command_line.specs.FirstFault.{IsOpen, FailsFirst, EndsEarly}

data Comes (at : ℕ) (f : (State → Reading) → Reading) : Type 0 where
  stops : (kind : UsageKind) → ((next : State → Reading) → fault_of (f next) ≡ Some (fault_at at kind)) → Comes at f
  goes : (behind : State) → ((next : State → Reading) → fault_of (f next) ≡ fault_of (next behind)) → Comes at f

value_comes : (word at : ℕ) (option : Opt) (kind : ValueKind) (value : List ℕ) → Comes at (λ next. value_read word at option kind value (next Plain))
value_comes word at option kind value =
    elim (value_fault kind value) as (λ v. Comes at (λ next. or_fails v at (Given word option value (next Plain))))
    [ None ↦ goes Plain (λ next. refl) | Some fault ↦ stops fault (λ next. refl) ]

said_comes : (at : ℕ) (option : Opt) (later : (State → Reading) → Reading) → Comes at later → Comes at (λ next. Given at option [] (later next))
said_comes at option later (stops kind h) = stops kind h
said_comes at option later (goes behind h) = goes behind h

letter_comes : (at : ℕ) (option : Option Opt) (taken : Takes) (rest : List ℕ) (later : (State → Reading) → Reading) → Comes at later
    → Comes at (λ next. letter_read at option taken rest next (later next))
letter_comes at None taken rest later c = stops kinds.UnknownOption (λ next. refl)
letter_comes at (Some option) Lacking rest later c = stops kinds.UnknownOption (λ next. refl)
letter_comes at (Some option) LeftOut rest later c = stops kinds.OutOfProfile (λ next. refl)
letter_comes at (Some option) Flag rest later c = said_comes at option later c
letter_comes at (Some option) (Value kind) [] later c = goes (Wants at option kind) (λ next. refl)
letter_comes at (Some option) (Value kind) (b ∷ rest) later c = value_comes at at option kind (b ∷ rest)

letters_comes : (tool : Tool) (at : ℕ) (letters : List ℕ) → Comes at (letters_read tool at letters)
letters_comes tool at [] = goes Plain (λ next. refl)
letters_comes tool at (b ∷ rest) = letter_comes at (option_of_letter tool b) (taken_of tool (option_of_letter tool b)) rest (letters_read tool at rest) (letters_comes tool at rest)

name_comes : (at : ℕ) (option : Option Opt) (taken : Takes) (value : Option (List ℕ)) → Comes at (name_read at option taken value)
name_comes at None taken value = stops kinds.UnknownOption (λ next. refl)
name_comes at (Some option) Lacking value = stops kinds.UnknownOption (λ next. refl)
name_comes at (Some option) LeftOut value = stops kinds.OutOfProfile (λ next. refl)
name_comes at (Some option) Flag None = goes Plain (λ next. refl)
name_comes at (Some option) Flag (Some value) = stops kinds.BadValue (λ next. refl)
name_comes at (Some option) (Value kind) None = goes (Wants at option kind) (λ next. refl)
name_comes at (Some option) (Value kind) (Some value) = value_comes at at option kind value

plain_comes : (tool : Tool) (at : ℕ) (text : List ℕ) (word : Word) → Comes at (plain_read tool at text word)
plain_comes tool at text Ends = goes Ended (λ next. refl)
plain_comes tool at text (Long name) = name_comes at (option_of_name tool (name_of name)) (taken_of tool (option_of_name tool (name_of name))) (value_of name)
plain_comes tool at text (Short letters) = letters_comes tool at letters
plain_comes tool at text Bare = goes Plain (λ next. refl)

word_comes : (tool : Tool) (state : State) (at : ℕ) (text : List ℕ) → Comes at (word_read tool state at text)
word_comes tool Plain at text = plain_comes tool at text (word_of text)
word_comes tool (Wants word option kind) at text = value_comes word at option kind text
word_comes tool Ended at text = goes Ended (λ next. refl)

end_open : (state : State) (at : ℕ) → IsOpen (fault_of (end_read state at))
end_open Plain at = tt
end_open (Wants word option kind) at = refl
end_open Ended at = tt

none_open : (tool : Tool) (state : State) (at : ℕ) → IsOpen (fault_of (words_read tool state at []))
unfolding words_read
none_open tool state at = end_open state at

end_early : (state : State) (at : ℕ) (fault : UsageFault) → fault_of (end_read state at) ≡ Some fault → EndsEarly at [] fault
end_early Plain at fault e = cc
end_early (Wants word option kind) at fault e =
    let same : fault_at at kinds.MissingValue ≡ fault = cc in
    record { kind = ap (λ f. f.kind) (sym same); place = let p : at ≡ fault.word = ap (λ f. f.word) same in omega arith }
end_early Ended at fault e = cc

none_early : (tool : Tool) (state : State) (at : ℕ) (fault : UsageFault) → fault_of (words_read tool state at []) ≡ Some fault → EndsEarly at [] fault
unfolding words_read
none_early tool state at fault e = end_early state at fault e

-- what a word leaves to the words behind it
step : (tool : Tool) (state : State) (at : ℕ) (text : List ℕ) (words : List (List ℕ)) → words_read tool state at (text ∷ words) ≡ word_read tool state at text (λ s. words_read tool s (at + 1) words)
unfolding words_read
step tool state at text words = refl

one_more : (tool : Tool) (state behind : State) (at : ℕ) (text : List ℕ) (words : List (List ℕ)) (fault : UsageFault)
    → ((others : List (List ℕ)) → fault_of (words_read tool state at (text ∷ others)) ≡ fault_of (words_read tool behind (at + 1) others))
    → FailsFirst tool behind (at + 1) words fault ⊎ EndsEarly (at + 1) words fault → FailsFirst tool state at (text ∷ words) fault ⊎ EndsEarly at (text ∷ words) fault
one_more tool state behind at text words fault h (inl f) = inl (record {
  front = text ∷ f.front;
  word = f.word;
  rest = f.rest;
  split = ap (λ l. text ∷ l) f.split;
  place = let p = f.place in omega arith;
  before = subst IsOpen (sym (h f.front)) f.before;
  whatever = λ others. h (f.front ++ f.word ∷ others) ∙ f.whatever others;
})
one_more tool state behind at text words fault h (inr e) = inr (record { kind = e.kind; place = let p = e.place in omega arith })

here : (tool : Tool) (state : State) (at : ℕ) (text : List ℕ) (words : List (List ℕ)) (kind : UsageKind) (fault : UsageFault)
    → ((others : List (List ℕ)) → fault_of (words_read tool state at (text ∷ others)) ≡ Some (fault_at at kind))
    → fault_of (words_read tool state at (text ∷ words)) ≡ Some fault → FailsFirst tool state at (text ∷ words) fault
here tool state at text words kind fault h e =
    let said : Some (fault_at at kind) ≡ Some fault = sym (h words) ∙ e in
    let same : fault_at at kind ≡ fault = cc in
    record {
      front = [];
      word = text;
      rest = words;
      split = refl;
      place = let p : at ≡ fault.word = ap (λ f. f.word) same in omega arith;
      before = none_open tool state at;
      whatever = λ others. h others ∙ said;
    }

first_from : (tool : Tool) (state : State) (at : ℕ) (text : List ℕ) (words : List (List ℕ)) (fault : UsageFault) → Comes at (word_read tool state at text)
    → ((behind : State) → fault_of (words_read tool behind (at + 1) words) ≡ Some fault → FailsFirst tool behind (at + 1) words fault ⊎ EndsEarly (at + 1) words fault)
    → fault_of (words_read tool state at (text ∷ words)) ≡ Some fault → FailsFirst tool state at (text ∷ words) fault ⊎ EndsEarly at (text ∷ words) fault
first_from tool state at text words fault (stops kind h) ih e =
    inl (here tool state at text words kind fault (λ others. ap fault_of (step tool state at text others) ∙ h (λ s. words_read tool s (at + 1) others)) e)
first_from tool state at text words fault (goes behind h) ih e =
    let same = λ (others : List (List ℕ)). ap fault_of (step tool state at text others) ∙ h (λ s. words_read tool s (at + 1) others) in
    one_more tool state behind at text words fault same (ih behind (sym (same words) ∙ e))

pub first_fault : (tool : Tool) (words : List (List ℕ)) (state : State) (at : ℕ) (fault : UsageFault) → fault_of (words_read tool state at words) ≡ Some fault
    → FailsFirst tool state at words fault ⊎ EndsEarly at words fault
first_fault tool [] state at fault e = inr (none_early tool state at fault e)
first_fault tool (text ∷ words) state at fault e =
    first_from tool state at text words fault (word_comes tool state at text) (λ behind h. first_fault tool words behind (at + 1) fault h) e
