-- A call, by its words: a clone, or what another tool does.
use Rattle.std.proofs.Common.{◌≡◌, ℕ, Bool, false, List, Option, Some, None, Result, Ok, Err, refl, sym, ap, subst, ◌⊎◌, inl, inr}
use Rattle.cat_model.specs.Values.{Bytes}
use Rattle.clone_words.specs.declared.asked.CloneAsked.{CloneAsked}
use Rattle.clone_words.specs.Words.{clone_in, of_reading}
use Rattle.clone_tools.specs.Due.{Work, Does, clone_due, due_by, call_due}
use Rattle.clone_tools.specs.Runs.{MayWork, MayRun, HasEnded, AreOfRun, HasEndedEarly, HasAnswered, Ended, Answered}
use Rattle.command_line.specs.declared.command.Command.{Command}
use Rattle.command_line.specs.declared.command.Command.TheVariants as command
use Rattle.command_line.specs.declared.usage.UsageFault.{UsageFault}
use Rattle.command_line.specs.Usage.{command_from}
use Rattle.dump_ports.specs.Tree.{Tree}
use Rattle.dump_ports.specs.declared.moment.Moment.{Moment}
use Rattle.dump_tools.specs.Due.{Plan, due}
use Rattle.dump_tools.specs.Inputs.{where_read}
use Rattle.dump_tools.specs.Outputs.{World, Output}
use Rattle.dump_tools.specs.Runs.{Run, MayCome, IsEarly, read_by}
use Rattle.dump_tools.specs.Runs as tool
use Rattle.tool_words.specs.declared.outcome.Outcome.{Outcome}
use Rattle.tool_words.specs.declared.outcome.Outcome.TheVariants.{Done, Usage, ReadFault, WriteFault, Missing, BadExport, BadScript, OutOfProfile, TooLarge, Differs, ScriptStopped, BadArchive, BadList, BadDefn, WithErrors, RestoreStopped, Loop, NoMatch, Memory}
use Rattle.tool_words.specs.declared.words.Teller.{Teller}
use Rattle.tool_words.specs.Answers.{◌>>=◌}
use Rattle.tool_words.specs.Messages.{teller_name}
use Rattle.tool_words.specs.Words.{teller_of, words_asked, asked_by, asked_input, reads_input}

-- ---- a clone

unread_by : (r : Result Command UsageFault) (asked : CloneAsked) → of_reading r ≡ Some asked → asked_input (asked_by r) ≡ false
unread_by (Err fault) asked e = refl
unread_by (Ok (command.PgClone words)) asked e = refl
unread_by (Ok other) asked e = let never : None ≡ Some asked = e in cc

-- it reads no standard input
unread : (words : List Bytes) (asked : CloneAsked) → clone_in words ≡ Some asked → reads_input words ≡ false
unfolding clone_in words_asked
unread words asked e = unread_by (command_from words) asked e

no_input : (words : List Bytes) (input : Bytes) (asked : CloneAsked) → clone_in words ≡ Some asked → read_by words input ≡ None
no_input words input asked e = ap (λ (b : Bool). where_read b input) (unread words asked e)

clone_is : (words : List Bytes) (moment : Moment) (tree : Tree) (input : Bytes) (asked : CloneAsked) → clone_in words ≡ Some asked → call_due words moment tree input ≡ clone_due (teller_name (teller_of words)) asked moment tree
clone_is words moment tree input asked e = ap (λ (a : Option CloneAsked). due_by a words moment tree input) e

pub clone_answered : (words : List Bytes) (moment : Moment) (tree : Tree) (input : Bytes) (asked : CloneAsked) (answer : Outcome) (before after : World) (lines lines' : ℕ) → clone_in words ≡ Some asked
    → HasAnswered None (teller_of words) (clone_due (teller_name (teller_of words)) asked moment tree) answer before after lines lines' → Answered answer words moment tree input before after lines lines'
clone_answered words moment tree input asked answer before after lines lines' e h =
    subst (λ (r : Option Bytes). HasAnswered r (teller_of words) (call_due words moment tree input) answer before after lines lines') (sym (no_input words input asked e))
    (subst (λ (d : Result Work Outcome). HasAnswered None (teller_of words) d answer before after lines lines') (sym (clone_is words moment tree input asked e)) h)

-- ---- another tool

-- what is due of it, as work
abbrev work_of : Result Plan Outcome → Result Work Outcome
work_of d = d >>= λ plan. Ok (Does plan)

may_work : (teller : Teller) (d : Result Plan Outcome) (run : Run) → MayCome teller d run → MayWork teller (work_of d) run
may_work teller (Err refusal) run may = may
may_work teller (Ok plan) run may = may

may_run : (reads : Option Bytes) (teller : Teller) (d : Result Plan Outcome) (run : Run) → tool.MayRun reads teller d run → MayRun reads teller (work_of d) run
may_run reads teller d run m = record { first = m.first; begins = m.begins; later = m.later; may = may_work teller d m.later m.may; is = m.is }

ended : (reads : Option Bytes) (teller : Teller) (d : Result Plan Outcome) (answer : Outcome) (before after : World) → tool.HasEnded reads teller d answer before after → HasEnded reads teller (work_of d) answer before after
ended reads teller d answer before after h = record { run = h.run; may = may_run reads teller d h.run h.may; answers = h.answers; put = h.put }

of_run : (reads : Option Bytes) (teller : Teller) (d : Result Plan Outcome) (outputs : List Output) → tool.AreOfRun reads teller d outputs → AreOfRun reads teller (work_of d) outputs
of_run reads teller d outputs (inl begins) = inl begins
of_run reads teller d outputs (inr (run, may, is)) = inr (inr (run, may_run reads teller d run may, is))

early : (reads : Option Bytes) (teller : Teller) (d : Result Plan Outcome) (answer : Outcome) (before after : World) (lines lines' : ℕ) → tool.HasEndedEarly reads teller d answer before after lines lines' → HasEndedEarly reads teller (work_of d) answer before after lines lines'
early reads teller d answer before after lines lines' h = record {
  between = h.between;
  ended = record { outputs = h.ended.outputs; of_run = of_run reads teller d h.ended.outputs h.ended.of_run; cut = h.ended.cut };
  said = h.said;
  own = h.own;
  line = h.line;
}

tool_is : (words : List Bytes) (moment : Moment) (tree : Tree) (input : Bytes) → clone_in words ≡ None → call_due words moment tree input ≡ work_of (due words moment tree input)
tool_is words moment tree input e = ap (λ (a : Option CloneAsked). due_by a words moment tree input) e

pub tool_ended : (words : List Bytes) (moment : Moment) (tree : Tree) (input : Bytes) (answer : Outcome) (before after : World) → clone_in words ≡ None → tool.Ended words moment tree input answer before after → Ended words moment tree input answer before after
tool_ended words moment tree input answer before after e h =
    subst (λ (d : Result Work Outcome). HasEnded (read_by words input) (teller_of words) d answer before after) (sym (tool_is words moment tree input e))
    (ended (read_by words input) (teller_of words) (due words moment tree input) answer before after h)

pub tool_ended_or : (words : List Bytes) (moment : Moment) (tree : Tree) (input : Bytes) (answer : Outcome) (before after : World) → clone_in words ≡ None → tool.Ended words moment tree input answer before after ⊎ (answer ≡ Memory) → Ended words moment tree input answer before after ⊎ (answer ≡ Memory)
tool_ended_or words moment tree input answer before after e (inl h) = inl (tool_ended words moment tree input answer before after e h)
tool_ended_or words moment tree input answer before after e (inr h) = inr h

-- by cases of the answer: how it ended
in_cases : (answer : Outcome) (words : List Bytes) (moment : Moment) (tree : Tree) (input : Bytes) (before after : World) (lines lines' : ℕ) → tool.Answered answer words moment tree input before after lines lines'
    → (IsEarly answer × tool.EndedEarly words moment tree input answer before after lines lines') ⊎ ((IsEarly answer → ⊥) × tool.Ended words moment tree input answer before after)
in_cases Done words moment tree input before after lines lines' h = inr ((λ n. n), h)
in_cases (Usage word kind) words moment tree input before after lines lines' h = inr ((λ n. n), h)
in_cases ReadFault words moment tree input before after lines lines' h = inl (tt, h)
in_cases WriteFault words moment tree input before after lines lines' h = inl (tt, h)
in_cases (Missing name) words moment tree input before after lines lines' h = inr ((λ n. n), h)
in_cases (BadExport file line kind) words moment tree input before after lines lines' h = inr ((λ n. n), h)
in_cases (BadScript fault) words moment tree input before after lines lines' h = inr ((λ n. n), h)
in_cases (OutOfProfile what) words moment tree input before after lines lines' h = inr ((λ n. n), h)
in_cases (TooLarge what most) words moment tree input before after lines lines' h = inr ((λ n. n), h)
in_cases (Differs key) words moment tree input before after lines lines' h = inr ((λ n. n), h)
in_cases (ScriptStopped stop) words moment tree input before after lines lines' h = inr ((λ n. n), h)
in_cases (BadArchive fault) words moment tree input before after lines lines' h = inr ((λ n. n), h)
in_cases (BadList fault) words moment tree input before after lines lines' h = inr ((λ n. n), h)
in_cases (BadDefn entry fault) words moment tree input before after lines lines' h = inr ((λ n. n), h)
in_cases (WithErrors errors) words moment tree input before after lines lines' h = inr ((λ n. n), h)
in_cases (RestoreStopped stop) words moment tree input before after lines lines' h = inr ((λ n. n), h)
in_cases (Loop path) words moment tree input before after lines lines' h = inr ((λ n. n), h)
in_cases (NoMatch pattern) words moment tree input before after lines lines' h = inr ((λ n. n), h)
in_cases Memory words moment tree input before after lines lines' h = inl (tt, h)

pub tool_answered : (answer : Outcome) (words : List Bytes) (moment : Moment) (tree : Tree) (input : Bytes) (before after : World) (lines lines' : ℕ) → clone_in words ≡ None → tool.Answered answer words moment tree input before after lines lines' → Answered answer words moment tree input before after lines lines'
tool_answered answer words moment tree input before after lines lines' e h = by (in_cases answer words moment tree input before after lines lines' h)
  where
    by : (IsEarly answer × tool.EndedEarly words moment tree input answer before after lines lines') ⊎ ((IsEarly answer → ⊥) × tool.Ended words moment tree input answer before after) → Answered answer words moment tree input before after lines lines'
    by (inl cut) = inl (
      cut.0,
      subst (λ (d : Result Work Outcome). HasEndedEarly (read_by words input) (teller_of words) d answer before after lines lines') (sym (tool_is words moment tree input e))
          (early (read_by words input) (teller_of words) (due words moment tree input) answer before after lines lines' cut.1),
    )
    by (inr late) = inr (late.0, tool_ended words moment tree input answer before after e late.1)
