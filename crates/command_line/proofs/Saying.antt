-- Words that say options are read as these.
use Rattle.std.proofs.Common.{◌≡◌, ℕ, ◌+◌, List, [], ◌∷◌, ◌++◌, Option, Some, None, Ok, Err, refl, sym, ap, ◌∙◌, arith, Result, codes, ◌↔◌}
use Rattle.std.specs.Bool.{⊤}
use Rattle.command_line.specs.declared.options.Tool.{Tool}
use Rattle.command_line.specs.declared.options.Tool.TheVariants.{PgDump, PgRestore, PgDumpall, Psql, PgCatcmp, PgClone, PgGen}
use Rattle.command_line.specs.declared.options.Opt.{Opt}
use Rattle.command_line.specs.declared.options.Opt.TheVariants as opt
use Rattle.command_line.specs.declared.options.Takes.{Takes}
use Rattle.command_line.specs.declared.options.Takes.TheVariants.{Lacking, LeftOut, Flag, Value}
use Rattle.command_line.specs.declared.options.ValueKind.{ValueKind}
use Rattle.command_line.specs.Options.{takes, tool_of, tool_name}
use Rattle.command_line.specs.Spellings.{option_of_letter, option_of_name}
use Rattle.command_line.specs.Values.{value_fault}
use Rattle.command_line.specs.Reading.{State, Plain, Wants, Ended, Reading, Given, Other, or_fails, value_read, word_read, words_read}
use Rattle.command_line.specs.declared.usage.UsageFault.{UsageFault}
use Rattle.command_line.specs.Commands.{command_of}
use Rattle.command_line.specs.Usage.{known, tool_in, said_by, fault_with, fault_by_tool, usage_of, or_command, command_by_tool, command_from}
use Rattle.command_line.specs.Sayings.{Saying, TakesValue, AreTaken, word_for, width, words_for, spelled, others_from, said_from, line_of}

-- what the word for an option is read as
abbrev WordIsRead : Takes → ℕ → Opt → Reading → (State → Reading) → Type 0
WordIsRead Flag at option reading next = reading ≡ Given at option [] (next Plain)
WordIsRead (Value kind) at option reading next = reading ≡ next (Wants at option kind)
WordIsRead _ at option reading next = ⊤

dump_word : (option : Opt) (at : ℕ) (next : State → Reading) → WordIsRead (takes PgDump option) at option (word_read PgDump Plain at (word_for option) next) next
unfolding option_of_letter option_of_name
dump_word opt.Dbname at next = refl
dump_word opt.File at next = refl
dump_word opt.Format at next = refl
dump_word opt.Compress at next = refl
dump_word opt.DataOnly at next = refl
dump_word opt.SchemaOnly at next = refl
dump_word opt.Schema at next = refl
dump_word opt.ExcludeSchema at next = refl
dump_word opt.Table at next = refl
dump_word opt.ExcludeTable at next = refl
dump_word opt.ExcludeTableData at next = refl
dump_word opt.NoOwner at next = refl
dump_word opt.NoPrivileges at next = refl
dump_word opt.NoComments at next = refl
dump_word opt.Section at next = refl
dump_word opt.StrictNames at next = refl
dump_word _ at next = tt

restore_word : (option : Opt) (at : ℕ) (next : State → Reading) → WordIsRead (takes PgRestore option) at option (word_read PgRestore Plain at (word_for option) next) next
unfolding option_of_letter option_of_name
restore_word opt.Dbname at next = refl
restore_word opt.File at next = refl
restore_word opt.Format at next = refl
restore_word opt.List at next = refl
restore_word opt.UseList at next = refl
restore_word opt.Jobs at next = refl
restore_word opt.SingleTransaction at next = refl
restore_word opt.ExitOnError at next = refl
restore_word opt.DataOnly at next = refl
restore_word opt.SchemaOnly at next = refl
restore_word opt.Schema at next = refl
restore_word opt.ExcludeSchema at next = refl
restore_word opt.Table at next = refl
restore_word opt.NoOwner at next = refl
restore_word opt.NoPrivileges at next = refl
restore_word opt.NoComments at next = refl
restore_word opt.Section at next = refl
restore_word _ at next = tt

dumpall_word : (option : Opt) (at : ℕ) (next : State → Reading) → WordIsRead (takes PgDumpall option) at option (word_read PgDumpall Plain at (word_for option) next) next
unfolding option_of_letter option_of_name
dumpall_word opt.Dbname at next = refl
dumpall_word opt.File at next = refl
dumpall_word opt.GlobalsOnly at next = refl
dumpall_word opt.RolesOnly at next = refl
dumpall_word opt.SchemaOnly at next = refl
dumpall_word opt.NoOwner at next = refl
dumpall_word opt.NoPrivileges at next = refl
dumpall_word _ at next = tt

psql_word : (option : Opt) (at : ℕ) (next : State → Reading) → WordIsRead (takes Psql option) at option (word_read Psql Plain at (word_for option) next) next
unfolding option_of_letter option_of_name
psql_word opt.Dbname at next = refl
psql_word opt.File at next = refl
psql_word opt.Variable at next = refl
psql_word _ at next = tt

clone_word : (option : Opt) (at : ℕ) (next : State → Reading) → WordIsRead (takes PgClone option) at option (word_read PgClone Plain at (word_for option) next) next
unfolding option_of_letter option_of_name
clone_word opt.Format at next = refl
clone_word opt.File at next = refl
clone_word opt.Jobs at next = refl
clone_word opt.DataOnly at next = refl
clone_word opt.SchemaOnly at next = refl
clone_word opt.Schema at next = refl
clone_word opt.ExcludeSchema at next = refl
clone_word opt.Table at next = refl
clone_word opt.ExcludeTable at next = refl
clone_word opt.ExcludeTableData at next = refl
clone_word opt.NoOwner at next = refl
clone_word opt.NoPrivileges at next = refl
clone_word opt.NoComments at next = refl
clone_word opt.Section at next = refl
clone_word opt.StrictNames at next = refl
clone_word _ at next = tt

gen_word : (option : Opt) (at : ℕ) (next : State → Reading) → WordIsRead (takes PgGen option) at option (word_read PgGen Plain at (word_for option) next) next
unfolding option_of_letter option_of_name
gen_word opt.Tables at next = refl
gen_word opt.Jobs at next = refl
gen_word opt.File at next = refl
gen_word _ at next = tt

word_is_read : (tool : Tool) (option : Opt) (at : ℕ) (next : State → Reading) → WordIsRead (takes tool option) at option (word_read tool Plain at (word_for option) next) next
word_is_read PgDump option at next = dump_word option at next
word_is_read PgRestore option at next = restore_word option at next
word_is_read PgDumpall option at next = dumpall_word option at next
word_is_read Psql option at next = psql_word option at next
word_is_read PgCatcmp option at next = tt
word_is_read PgClone option at next = clone_word option at next
word_is_read PgGen option at next = gen_word option at next

step : (tool : Tool) (state : State) (at : ℕ) (text : List ℕ) (words : List (List ℕ)) → words_read tool state at (text ∷ words) ≡ word_read tool state at text (λ s. words_read tool s (at + 1) words)
unfolding words_read
step tool state at text words = refl

value_is_read : (word at : ℕ) (option : Opt) (kind : ValueKind) (value : List ℕ) (later : Reading) → value_fault kind value ≡ None → value_read word at option kind value later ≡ Given word option value later
value_is_read word at option kind value later h = ap (λ v. or_fails v at (Given word option value later)) h

-- one option and its value, and what is read behind them
say_one : (tool : Tool) (saying : Saying) (at : ℕ) (taken : Takes) (words : List (List ℕ)) (later : Reading) → TakesValue taken saying.value
    → ((next : State → Reading) → WordIsRead taken at saying.option (word_read tool Plain at (word_for saying.option) next) next)
    → words_read tool Plain (at + width taken) words ≡ later → words_read tool Plain at (words_for taken saying ++ words) ≡ Given at saying.option saying.value later
say_one tool saying at Lacking words later t w h = absurd t
say_one tool saying at LeftOut words later t w h = absurd t
say_one tool saying at Flag words later t w h =
    step tool Plain at (word_for saying.option) words ∙ w (λ s. words_read tool s (at + 1) words) ∙ ap (λ v. Given at saying.option v (words_read tool Plain (at + 1) words)) (sym t) ∙ ap (λ r. Given at saying.option saying.value r) h
say_one tool saying at (Value kind) words later t w h =
    let two : at + 1 + 1 ≡ at + 2 = omega arith in
    step tool Plain at (word_for saying.option) (saying.value ∷ words)
    ∙ w (λ s. words_read tool s (at + 1) (saying.value ∷ words))
    ∙ step tool (Wants at saying.option kind) (at + 1) saying.value words
    ∙ value_is_read at (at + 1) saying.option kind saying.value (words_read tool Plain (at + 1 + 1) words) t
    ∙ ap (λ n. Given at saying.option saying.value (words_read tool Plain n words)) two ∙ ap (λ r. Given at saying.option saying.value r) h

others_read : (tool : Tool) (at : ℕ) (others : List (List ℕ)) → words_read tool Ended at others ≡ others_from at others
unfolding words_read
others_read tool at [] = refl
others_read tool at (text ∷ others) = ap (λ r. Other at text r) (others_read tool (at + 1) others)

dashes_read : (tool : Tool) (at : ℕ) (others : List (List ℕ)) → words_read tool Plain at (codes "--" ∷ others) ≡ words_read tool Ended (at + 1) others
unfolding words_read
dashes_read tool at others = refl

sayings_read : (tool : Tool) (sayings : List Saying) (others : List (List ℕ)) (at : ℕ) → AreTaken tool sayings → words_read tool Plain at (spelled tool sayings others) ≡ said_from tool at sayings others
sayings_read tool [] others at t = dashes_read tool at others ∙ others_read tool (at + 1) others
sayings_read tool (saying ∷ sayings) others at t =
    say_one tool saying at (takes tool saying.option) (spelled tool sayings others) (said_from tool (at + width (takes tool saying.option)) sayings others) t.0 (word_is_read tool saying.option at)
    (sayings_read tool sayings others (at + width (takes tool saying.option)) t.1)

pub said_line : (tool : Tool) (sayings : List Saying) (others : List (List ℕ)) → AreTaken tool sayings → said_by tool (line_of tool sayings others) ≡ said_from tool 1 sayings others
unfolding said_by
said_line tool sayings others t = sayings_read tool sayings others 1 t

named : (tool : Tool) → tool_of (tool_name tool) ≡ Some tool
named PgDump = refl
named PgRestore = refl
named PgDumpall = refl
named Psql = refl
named PgCatcmp = refl
named PgClone = refl
named PgGen = refl

or_command_reads : (fault : Option UsageFault) (tool : Tool) (words : List (List ℕ)) → fault ≡ None → or_command fault tool words ≡ Ok (command_of tool (said_by tool words))
or_command_reads fault tool words e = ap (λ f. or_command f tool words) e

command_reads : (r : Result Tool UsageFault) (tool : Tool) (words : List (List ℕ)) → r ≡ Ok tool → fault_by_tool r words ≡ None → command_by_tool r words ≡ Ok (command_of tool (said_by tool words))
command_reads r tool words e h =
    let none : fault_with tool words ≡ None = ap (λ r. fault_by_tool r words) (sym e) ∙ h in
    ap (λ r. command_by_tool r words) e ∙ or_command_reads (fault_with tool words) tool words none

pub line_reads : (tool : Tool) (sayings : List Saying) (others : List (List ℕ)) → AreTaken tool sayings → usage_of (line_of tool sayings others) ≡ None
    → command_from (line_of tool sayings others) ≡ Ok (command_of tool (said_from tool 1 sayings others))
unfolding usage_of command_from
line_reads tool sayings others t h =
    command_reads (tool_in (line_of tool sayings others)) tool (line_of tool sayings others) (ap known (named tool)) h ∙ ap (λ r. Ok (command_of tool r)) (said_line tool sayings others t)

fault_or_command : (o : Option UsageFault) (tool : Tool) (words : List (List ℕ)) (fault : UsageFault) → (o ≡ Some fault) ↔ (or_command o tool words ≡ Err fault)
fault_or_command None tool words fault = (λ e. cc, λ e. cc)
fault_or_command (Some other) tool words fault = (λ e. cc, λ e. cc)

by_tool : (r : Result Tool UsageFault) (words : List (List ℕ)) (fault : UsageFault) → (fault_by_tool r words ≡ Some fault) ↔ (command_by_tool r words ≡ Err fault)
by_tool (Err other) words fault = (λ e. cc, λ e. cc)
by_tool (Ok tool) words fault = fault_or_command (fault_with tool words) tool words fault

pub fault_is_answer : (words : List (List ℕ)) (fault : UsageFault) → (usage_of words ≡ Some fault) ↔ (command_from words ≡ Err fault)
unfolding usage_of command_from
fault_is_answer words fault = by_tool (tool_in words) words fault
