-- What the words say is what the tool takes, and words without a fault have what their tool needs.
use Rattle.std.proofs.Common.{◌≡◌, ℕ, ◌+◌, true, List, [], ◌∷◌, Option, Some, None, refl, sym, subst, IsSome, rules}
use Rattle.std.specs.Bool.{⊤}
use Rattle.command_line.specs.declared.options.Tool.{Tool}
use Rattle.command_line.specs.declared.options.Tool.TheVariants.{PgDump, PgRestore, PgDumpall, Psql, PgCatcmp, PgClone, PgGen}
use Rattle.command_line.specs.declared.options.Opt.{Opt}
use Rattle.command_line.specs.declared.options.Opt.TheVariants as opt
use Rattle.command_line.specs.declared.options.Takes.{Takes}
use Rattle.command_line.specs.declared.options.Takes.TheVariants.{Lacking, LeftOut, Flag, Value}
use Rattle.command_line.specs.declared.options.ValueKind.{ValueKind}
use Rattle.command_line.specs.declared.usage.UsageFault.{UsageFault}
use Rattle.command_line.specs.declared.usage.UsageKind.{UsageKind}
use Rattle.command_line.specs.declared.usage.UsageKind.TheVariants as kinds
use Rattle.command_line.specs.Options.{takes}
use Rattle.command_line.specs.Spellings.{option_of_letter, option_of_name}
use Rattle.command_line.specs.Values.{value_fault}
use Rattle.command_line.specs.Reading.{State, Plain, Wants, Ended, Reading, Done, Fails, Given, Other, or_fails, letter_read, taken_of, letters_read, name_read, name_of, value_of, Word, Ends, Long, Short, Bare, word_of, plain_read, word_read, words_read}
use Rattle.command_line.specs.Mentions.{Place, last_of, other_of, fault_of}
use Rattle.command_line.specs.Checks.{first_of, missing_if, fault_if, none, room, folder_place, pg_dump_checks, pg_dumpall_checks, pg_clone_checks, pg_gen_checks, checks, words_fault}
use Rattle.command_line.specs.Sayings.{TakesValue}
use Rattle.command_line.specs.Complete.{SaysTaken, HasNeeded}

-- a value is wanted only of an option that takes one
abbrev IsSound : Tool → State → Type 0
IsSound tool Plain = ⊤
IsSound tool (Wants word option kind) = takes tool option ≡ Value kind
IsSound tool Ended = ⊤

-- what follows says what the tool takes
abbrev Follows : Tool → (State → Reading) → Type 0
Follows tool next = (state : State) → IsSound tool state → SaysTaken tool (next state)

value_taken : (tool : Tool) (word at : ℕ) (option : Opt) (kind : ValueKind) (value : List ℕ) (later : Reading) (fault : Option UsageKind) → value_fault kind value ≡ fault
    → takes tool option ≡ Value kind → SaysTaken tool later → SaysTaken tool (or_fails fault at (Given word option value later))
value_taken tool word at option kind value later None e t s = (subst (λ x. TakesValue x value) (sym t) e, s)
value_taken tool word at option kind value later (Some fault) e t s = tt

letter_taken : (tool : Tool) (at : ℕ) (option : Opt) (taken : Takes) (rest : List ℕ) (next : State → Reading) (later : Reading) → takes tool option ≡ taken
    → Follows tool next → SaysTaken tool later → SaysTaken tool (letter_read at (Some option) taken rest next later)
letter_taken tool at option Lacking rest next later t f s = tt
letter_taken tool at option LeftOut rest next later t f s = tt
letter_taken tool at option Flag rest next later t f s = (subst (λ x. TakesValue x []) (sym t) refl, s)
letter_taken tool at option (Value kind) [] next later t f s = f (Wants at option kind) t
letter_taken tool at option (Value kind) (b ∷ rest) next later t f s = value_taken tool at at option kind (b ∷ rest) (next Plain) (value_fault kind (b ∷ rest)) refl t (f Plain tt)

one_taken : (tool : Tool) (at : ℕ) (option : Option Opt) (rest : List ℕ) (next : State → Reading) (later : Reading)
    → Follows tool next → SaysTaken tool later → SaysTaken tool (letter_read at option (taken_of tool option) rest next later)
one_taken tool at None rest next later f s = tt
one_taken tool at (Some option) rest next later f s = letter_taken tool at option (takes tool option) rest next later refl f s

letters_taken : (tool : Tool) (at : ℕ) (letters : List ℕ) (next : State → Reading) → Follows tool next → SaysTaken tool (letters_read tool at letters next)
letters_taken tool at [] next f = f Plain tt
letters_taken tool at (b ∷ rest) next f = one_taken tool at (option_of_letter tool b) rest next (letters_read tool at rest next) f (letters_taken tool at rest next f)

name_taken : (tool : Tool) (at : ℕ) (option : Opt) (taken : Takes) (value : Option (List ℕ)) (next : State → Reading) → takes tool option ≡ taken
    → Follows tool next → SaysTaken tool (name_read at (Some option) taken value next)
name_taken tool at option Lacking value next t f = tt
name_taken tool at option LeftOut value next t f = tt
name_taken tool at option Flag None next t f = (subst (λ x. TakesValue x []) (sym t) refl, f Plain tt)
name_taken tool at option Flag (Some value) next t f = tt
name_taken tool at option (Value kind) None next t f = f (Wants at option kind) t
name_taken tool at option (Value kind) (Some value) next t f = value_taken tool at at option kind value (next Plain) (value_fault kind value) refl t (f Plain tt)

long_taken : (tool : Tool) (at : ℕ) (option : Option Opt) (value : Option (List ℕ)) (next : State → Reading) → Follows tool next → SaysTaken tool (name_read at option (taken_of tool option) value next)
long_taken tool at None value next f = tt
long_taken tool at (Some option) value next f = name_taken tool at option (takes tool option) value next refl f

plain_taken : (tool : Tool) (at : ℕ) (text : List ℕ) (word : Word) (next : State → Reading) → Follows tool next → SaysTaken tool (plain_read tool at text word next)
plain_taken tool at text Ends next f = f Ended tt
plain_taken tool at text (Long name) next f = long_taken tool at (option_of_name tool (name_of name)) (value_of name) next f
plain_taken tool at text (Short letters) next f = letters_taken tool at letters next f
plain_taken tool at text Bare next f = f Plain tt

word_taken : (tool : Tool) (state : State) (at : ℕ) (text : List ℕ) (next : State → Reading) → IsSound tool state → Follows tool next → SaysTaken tool (word_read tool state at text next)
word_taken tool Plain at text next s f = plain_taken tool at text (word_of text) next f
word_taken tool (Wants word option kind) at text next s f = value_taken tool word at option kind text (next Plain) (value_fault kind text) refl s (f Plain tt)
word_taken tool Ended at text next s f = f Ended tt

pub words_taken : (tool : Tool) (words : List (List ℕ)) (state : State) (at : ℕ) → IsSound tool state → SaysTaken tool (words_read tool state at words)
unfolding words_read
words_taken tool [] Plain at s = tt
words_taken tool [] (Wants word option kind) at s = tt
words_taken tool [] Ended at s = tt
words_taken tool (text ∷ words) state at s = word_taken tool state at text (λ state. words_read tool state (at + 1) words) s (λ state s. words_taken tool words state (at + 1) s)

-- ---- what is needed

abbrev AllNone : List (Option UsageFault) → Type 0
AllNone [] = ⊤
AllNone (a ∷ others) = (a ≡ None) × AllNone others

all_none : (faults : List (Option UsageFault)) → first_of faults ≡ None → AllNone faults
all_none [] e = tt
all_none (None ∷ others) e = (refl, all_none others e)
all_none (Some fault ∷ others) e = cc

not_missing : (place : Option Place) (count : ℕ) → missing_if (none place) count ≡ None → IsSome place
not_missing None count e = cc
not_missing (Some place) count e = search rules

first_other : (r : Reading) → IsSome (other_of 1 r) → IsSome (other_of 0 r)
unfolding other_of
first_other Done h = h
first_other (Fails at kind) h = h
first_other (Given word option value later) h = first_other later h
first_other (Other word text later) h = search rules

dump_needed : (count : ℕ) (r : Reading) → AllNone (pg_dump_checks count r) → IsSome (folder_place r)
unfolding pg_dump_checks
dump_needed count r e = not_missing (folder_place r) count e.1.0

dumpall_needed : (count : ℕ) (r : Reading) → AllNone (pg_dumpall_checks count r) → IsSome (last_of opt.Dbname r)
unfolding pg_dumpall_checks
dumpall_needed count r e = not_missing (last_of opt.Dbname r) count e.0

clone_needed : (count : ℕ) (r : Reading) → AllNone (pg_clone_checks count r) → HasNeeded PgClone r
unfolding pg_clone_checks
clone_needed count r e =
    let second = not_missing (other_of 1 r) count e.1.0 in
    (first_other r second, second, not_missing (last_of opt.File r) count e.1.1.0)

gen_needed : (count : ℕ) (r : Reading) → AllNone (pg_gen_checks count r) → HasNeeded PgGen r
unfolding pg_gen_checks
gen_needed count r e = (not_missing (last_of opt.File r) count e.0, not_missing (last_of opt.Tables r) count e.1.0)

needed : (tool : Tool) (count : ℕ) (r : Reading) → checks tool count r ≡ None → HasNeeded tool r
unfolding checks
needed PgDump count r e = dump_needed count r (all_none (pg_dump_checks count r) e)
needed PgRestore count r e = tt
needed PgDumpall count r e = dumpall_needed count r (all_none (pg_dumpall_checks count r) e)
needed Psql count r e = not_missing (folder_place r) count e
needed PgCatcmp count r e = let second = not_missing (other_of 1 r) count e in (first_other r second, second)
needed PgClone count r e = clone_needed count r (all_none (pg_clone_checks count r) e)
needed PgGen count r e = gen_needed count r (all_none (pg_gen_checks count r) e)

pub needed_where_none : (tool : Tool) (count : ℕ) (r : Reading) → words_fault tool count r ≡ None → HasNeeded tool r
unfolding words_fault
needed_where_none tool count r e =
    needed tool count r ((all_none (fault_if true kinds.ExtraWord (other_of (room tool r) r) ∷ fault_of r ∷ checks tool count r ∷ []) e).1.1.0)
