-- What a call comes to once the line of an answer was told, or couldn't be told.
use Rattle.std.proofs.Common.{◌≡◌, ℕ, List, [], ◌∷◌, Option, Result, Err, refl, sym, ap, subst, ◌⊎◌, inl, inr}
use Rattle.dump_ports.specs.Tree.{Tree}
use Rattle.dump_ports.specs.Faults.{HasRisen}
use Rattle.dump_ports.specs.declared.moment.Moment.{Moment}
use Rattle.cat_model.specs.declared.words.What.{What}
use Rattle.cat_model.specs.declared.words.What.TheVariants.{Unbuilt}
use Rattle.cat_model.specs.Values.{Bytes}
use Rattle.tool_words.specs.declared.outcome.Limit.{Limit}
use Rattle.tool_words.specs.declared.outcome.Outcome.{Outcome}
use Rattle.tool_words.specs.declared.outcome.Outcome.TheVariants.{Done, Usage, ReadFault, WriteFault, Missing, BadExport, BadScript, OutOfProfile, TooLarge, Differs, ScriptStopped, BadArchive, BadList, BadDefn, WithErrors, RestoreStopped, Loop, NoMatch, Memory}
use Rattle.tool_words.specs.declared.words.Teller.{Teller}
use Rattle.tool_words.specs.Words.{teller_of}
use Rattle.tool_words.specs.Answers.{IsRefusal, IsTold}
use Rattle.tool_words.specs.Lines.{Appends, AppendsPart}
use Rattle.tool_words.specs.Messages.{outcome_line}
use Rattle.dump_tools.specs.Due.{Plan, IsFinal, IsAnswerDue, IsDifference, IsTooLarge, LacksOids, IsUnmade, Counts, NoneRose, Counted, due}
use Rattle.dump_tools.specs.Outputs.{World, world, Tells}
use Rattle.dump_tools.specs.Runs.{told_run, MayCome, HasCut, IsEarly, HasEndedEarly, read_by, Ended, Answered}
use Rattle.dump_tools.proofs.Taking.{Begun, alone, behind_ended, behind_cut}
use Rattle.dump_tools.proofs.Putting.{told_part, told_whole}
use Rattle.dump_tools.proofs.Counting.{none_early}

-- the line of a refusal that is due
may_refuse : (teller : Teller) (d : Result Plan Outcome) (answer : Outcome) → d ≡ Err answer → MayCome teller d (told_run teller answer)
may_refuse teller d answer e = subst (λ r. MayCome teller r (told_run teller answer)) (sym e) refl

-- the line of the key at which two catalogues differ
may_differ : (teller : Teller) (d : Result Plan Outcome) (h : (a : Outcome) × IsDifference a d) → MayCome teller d (told_run teller h.0)
may_differ teller d (Done, h) = elim h [ ]
may_differ teller d (Usage word kind, h) = elim h [ ]
may_differ teller d (ReadFault, h) = elim h [ ]
may_differ teller d (WriteFault, h) = elim h [ ]
may_differ teller d (Missing name, h) = elim h [ ]
may_differ teller d (BadExport file line kind, h) = elim h [ ]
may_differ teller d (BadScript fault, h) = elim h [ ]
may_differ teller d (OutOfProfile what, h) = elim h [ ]
may_differ teller d (TooLarge what most, h) = elim h [ ]
may_differ teller d (Differs key, h) = subst (λ r. MayCome teller r (told_run teller (Differs key))) (sym h.is_due) (inr (key, h.least, refl))
may_differ teller d (ScriptStopped stop, h) = elim h [ ]
may_differ teller d (BadArchive fault, h) = elim h [ ]
may_differ teller d (BadList fault, h) = elim h [ ]
may_differ teller d (BadDefn entry fault, h) = elim h [ ]
may_differ teller d (WithErrors errors, h) = elim h [ ]
may_differ teller d (RestoreStopped stop, h) = elim h [ ]
may_differ teller d (Loop path, h) = elim h [ ]
may_differ teller d (NoMatch pattern, h) = elim h [ ]
may_differ teller d (Memory, h) = elim h [ ]

-- the line of what a script or a restore leaves and isn't written
may_be_large : (teller : Teller) (d : Result Plan Outcome) (what : Limit) (most : ℕ) → IsTooLarge (TooLarge what most) d → MayCome teller d (told_run teller (TooLarge what most))
may_be_large teller d what most (inl run) = subst (λ r. MayCome teller r (told_run teller (TooLarge what most))) (sym run.1) (inr (TooLarge what most, run.2, refl))
may_be_large teller d what most (inr restore) = subst (λ r. MayCome teller r (told_run teller (TooLarge what most))) (sym restore.1) (inr (TooLarge what most, restore.2, refl))

may_lack_oids : (teller : Teller) (d : Result Plan Outcome) (what : What) → what ≡ Unbuilt → LacksOids d → MayCome teller d (told_run teller (OutOfProfile what))
may_lack_oids teller d what is (inl run) = subst (λ r. MayCome teller r (told_run teller (OutOfProfile what))) (sym run.1) (inr (OutOfProfile what, (is, run.2), refl))
may_lack_oids teller d what is (inr restore) = subst (λ r. MayCome teller r (told_run teller (OutOfProfile what))) (sym restore.1) (inr (OutOfProfile what, (is, restore.2), refl))

may_stop : (teller : Teller) (d : Result Plan Outcome) (h : (a : Outcome) × IsUnmade a d) → MayCome teller d (told_run teller h.0)
may_stop teller d (Done, h) = elim h [ ]
may_stop teller d (Usage word kind, h) = elim h [ ]
may_stop teller d (ReadFault, h) = elim h [ ]
may_stop teller d (WriteFault, h) = elim h [ ]
may_stop teller d (Missing name, h) = elim h [ ]
may_stop teller d (BadExport file line kind, h) = elim h [ ]
may_stop teller d (BadScript fault, h) = elim h [ ]
may_stop teller d (OutOfProfile what, h) = may_lack_oids teller d what h.0 h.1
may_stop teller d (TooLarge what most, h) = may_be_large teller d what most h
may_stop teller d (Differs key, h) = elim h [ ]
may_stop teller d (ScriptStopped stop, h) = elim h [ ]
may_stop teller d (BadArchive fault, h) = elim h [ ]
may_stop teller d (BadList fault, h) = elim h [ ]
may_stop teller d (BadDefn entry fault, h) = elim h [ ]
may_stop teller d (WithErrors errors, h) = elim h [ ]
may_stop teller d (RestoreStopped stop, h) = elim h [ ]
may_stop teller d (Loop path, h) = elim h [ ]
may_stop teller d (NoMatch pattern, h) = elim h [ ]
may_stop teller d (Memory, h) = elim h [ ]

-- an answer that is due, by which the work didn't end on its way: its line may come
may_tell : (teller : Teller) (d : Result Plan Outcome) (answer : Outcome) → (d ≡ Err Done → ⊥) → IsAnswerDue answer d → IsEarly answer ⊎ MayCome teller d (told_run teller answer)
may_tell teller d answer n (inr (inl h)) = inr (may_differ teller d (answer, h))
may_tell teller d answer n (inr (inr h)) = inr (may_stop teller d (answer, h))
may_tell teller d Done n (inl e) = elim (n e) [ ]
may_tell teller d (Usage word kind) n (inl e) = inr (may_refuse teller d (Usage word kind) e)
may_tell teller d ReadFault n (inl e) = inl tt
may_tell teller d WriteFault n (inl e) = inl tt
may_tell teller d (Missing name) n (inl e) = inr (may_refuse teller d (Missing name) e)
may_tell teller d (BadExport file line kind) n (inl e) = inr (may_refuse teller d (BadExport file line kind) e)
may_tell teller d (BadScript fault) n (inl e) = inr (may_refuse teller d (BadScript fault) e)
may_tell teller d (OutOfProfile what) n (inl e) = inr (may_refuse teller d (OutOfProfile what) e)
may_tell teller d (TooLarge what most) n (inl e) = inr (may_refuse teller d (TooLarge what most) e)
may_tell teller d (Differs key) n (inl e) = inr (may_refuse teller d (Differs key) e)
may_tell teller d (ScriptStopped stop) n (inl e) = inr (may_refuse teller d (ScriptStopped stop) e)
may_tell teller d (BadArchive fault) n (inl e) = inr (may_refuse teller d (BadArchive fault) e)
may_tell teller d (BadList fault) n (inl e) = inr (may_refuse teller d (BadList fault) e)
may_tell teller d (BadDefn entry fault) n (inl e) = inr (may_refuse teller d (BadDefn entry fault) e)
may_tell teller d (WithErrors errors) n (inl e) = inr (may_refuse teller d (WithErrors errors) e)
may_tell teller d (RestoreStopped stop) n (inl e) = inr (may_refuse teller d (RestoreStopped stop) e)
may_tell teller d (Loop path) n (inl e) = inr (may_refuse teller d (Loop path) e)
may_tell teller d (NoMatch pattern) n (inl e) = inr (may_refuse teller d (NoMatch pattern) e)
may_tell teller d Memory n (inl e) = inl tt

-- such an answer is a refusal, before which nothing was put out
pub refuses : (d : Result Plan Outcome) (answer : Outcome) → (d ≡ Err Done → ⊥) → IsAnswerDue answer d → (IsEarly answer → ⊥) → IsRefusal answer × IsTold answer
refuses d Done n (inl e) late = elim (n e) [ ]
refuses d Done n (inr (inl h)) late = elim h [ ]
refuses d Done n (inr (inr h)) late = elim h [ ]
refuses d (Usage word kind) n h late = (tt, tt)
refuses d ReadFault n h late = (tt, tt)
refuses d WriteFault n h late = elim (late tt) [ ]
refuses d (Missing name) n h late = (tt, tt)
refuses d (BadExport file line kind) n h late = (tt, tt)
refuses d (BadScript fault) n h late = (tt, tt)
refuses d (OutOfProfile what) n h late = (tt, tt)
refuses d (TooLarge what most) n h late = (tt, tt)
refuses d (Differs key) n h late = (tt, tt)
refuses d (ScriptStopped stop) n h late = (tt, tt)
refuses d (BadArchive fault) n h late = (tt, tt)
refuses d (BadList fault) n h late = (tt, tt)
refuses d (BadDefn entry fault) n h late = (tt, tt)
refuses d (WithErrors errors) n h late = (tt, tt)
refuses d (RestoreStopped stop) n h late = (tt, tt)
refuses d (Loop path) n h late = (tt, tt)
refuses d (NoMatch pattern) n h late = (tt, tt)
refuses d Memory n h late = elim (late tt) [ ]

-- by cases of the answer: what has ended, or was cut short, is what is answered
pub as_answered : (answer : Outcome) (words : List Bytes) (moment : Moment) (tree : Tree) (input : Bytes) (before after : World) (lines lines_after : ℕ)
    → (IsEarly answer → HasEndedEarly (read_by words input) (teller_of words) (due words moment tree input) answer before after lines lines_after)
    → ((IsEarly answer → ⊥) → Ended words moment tree input answer before after)
    → Answered answer words moment tree input before after lines lines_after
as_answered Done words moment tree input before after lines lines_after e w = w (λ h. h)
as_answered (Usage word kind) words moment tree input before after lines lines_after e w = w (λ h. h)
as_answered ReadFault words moment tree input before after lines lines_after e w = e tt
as_answered WriteFault words moment tree input before after lines lines_after e w = e tt
as_answered (Missing name) words moment tree input before after lines lines_after e w = w (λ h. h)
as_answered (BadExport file line kind) words moment tree input before after lines lines_after e w = w (λ h. h)
as_answered (BadScript fault) words moment tree input before after lines lines_after e w = w (λ h. h)
as_answered (OutOfProfile what) words moment tree input before after lines lines_after e w = w (λ h. h)
as_answered (TooLarge what most) words moment tree input before after lines lines_after e w = w (λ h. h)
as_answered (Differs key) words moment tree input before after lines lines_after e w = w (λ h. h)
as_answered (ScriptStopped stop) words moment tree input before after lines lines_after e w = w (λ h. h)
as_answered (BadArchive fault) words moment tree input before after lines lines_after e w = w (λ h. h)
as_answered (BadList fault) words moment tree input before after lines lines_after e w = w (λ h. h)
as_answered (BadDefn entry fault) words moment tree input before after lines lines_after e w = w (λ h. h)
as_answered (WithErrors errors) words moment tree input before after lines lines_after e w = w (λ h. h)
as_answered (RestoreStopped stop) words moment tree input before after lines lines_after e w = w (λ h. h)
as_answered (Loop path) words moment tree input before after lines lines_after e w = w (λ h. h)
as_answered (NoMatch pattern) words moment tree input before after lines lines_after e w = w (λ h. h)
as_answered Memory words moment tree input before after lines lines_after e w = e tt

-- an answer whose line was told
pub told_answer : (answer : Outcome) (words : List Bytes) (moment : Moment) (tree : Tree) (input : Bytes) (before : World) (files : Option Tree) (left printed told told_after : Option Bytes) (lines lines_after : ℕ)
    → (due words moment tree input ≡ Err Done → ⊥) → IsAnswerDue answer (due words moment tree input)
    → ((IsEarly answer → ⊥) → Begun (read_by words input) before (world files left printed told))
    → HasCut (read_by words input) (teller_of words) (due words moment tree input) before (world files left printed told)
    → Appends (outcome_line (teller_of words) answer) told told_after
    → Answered answer words moment tree input before (world files left printed told_after) lines lines_after
told_answer answer words moment tree input before files left printed told told_after lines lines_after n d same cut line =
    as_answered answer words moment tree input before (world files left printed told_after) lines lines_after
    (λ early. record {
      between = world files left printed told;
      ended = cut;
      said = answer;
      own = inl refl;
      line = told_whole files left printed told told_after (outcome_line (teller_of words) answer) line;
    })
    (λ late. elim (may_tell (teller_of words) (due words moment tree input) answer n d) [
      | inl early ↦ elim (late early) [ ]
      | inr may ↦ behind_ended (read_by words input) (teller_of words) (due words moment tree input) answer before (world files left printed told) (world files left printed told_after) (same late) (record {
        run = told_run (teller_of words) answer;
        may = may;
        answers = refl;
        put = ap (λ t. world files left printed t) line;
      })
    ])

-- an answer whose line couldn't be told
pub untold_answer : (answer : Outcome) (words : List Bytes) (moment : Moment) (tree : Tree) (input : Bytes) (before : World) (files : Option Tree) (left printed told told_after : Option Bytes) (lines lines_after : ℕ)
    → (due words moment tree input ≡ Err Done → ⊥) → IsAnswerDue answer (due words moment tree input)
    → ((IsEarly answer → ⊥) → Begun (read_by words input) before (world files left printed told))
    → HasCut (read_by words input) (teller_of words) (due words moment tree input) before (world files left printed told)
    → AppendsPart (outcome_line (teller_of words) answer) told told_after
    → HasRisen lines lines_after
    → Answered WriteFault words moment tree input before (world files left printed told_after) lines lines_after
untold_answer answer words moment tree input before files left printed told told_after lines lines_after n d same cut line risen =
    elim (is_early answer) [
      | inl early ↦ record {
        between = world files left printed told;
        ended = cut;
        said = answer;
        own = inr (refl, early, risen);
        line = told_part files left printed told told_after (outcome_line (teller_of words) answer) line;
      }
      | inr late ↦ elim (may_tell (teller_of words) (due words moment tree input) answer n d) [
        | inl early ↦ elim (late early) [ ]
        | inr may ↦ record {
          between = world files left printed told_after;
          ended = behind_cut (read_by words input) (teller_of words) (due words moment tree input) before (world files left printed told) (world files left printed told_after) (same late) (record {
            outputs = Tells (outcome_line (teller_of words) answer) ∷ [];
            of_run = inr (told_run (teller_of words) answer, alone (teller_of words) (due words moment tree input) (told_run (teller_of words) answer) may, refl);
            cut = record {
              whole = [];
              later = Tells (outcome_line (teller_of words) answer) ∷ [];
              split = refl;
              cut = told_part files left printed told told_after (outcome_line (teller_of words) answer) line;
            };
          });
          said = WriteFault;
          own = inl refl;
          line = inl refl;
        }
      ]
    ]
  where
    is_early : (answer : Outcome) → IsEarly answer ⊎ (IsEarly answer → ⊥)
    is_early Done = inr (λ h. h)
    is_early (Usage word kind) = inr (λ h. h)
    is_early ReadFault = inl tt
    is_early WriteFault = inl tt
    is_early (Missing name) = inr (λ h. h)
    is_early (BadExport file line kind) = inr (λ h. h)
    is_early (BadScript fault) = inr (λ h. h)
    is_early (OutOfProfile what) = inr (λ h. h)
    is_early (TooLarge what most) = inr (λ h. h)
    is_early (Differs key) = inr (λ h. h)
    is_early (ScriptStopped stop) = inr (λ h. h)
    is_early (BadArchive fault) = inr (λ h. h)
    is_early (BadList fault) = inr (λ h. h)
    is_early (BadDefn entry fault) = inr (λ h. h)
    is_early (WithErrors errors) = inr (λ h. h)
    is_early (RestoreStopped stop) = inr (λ h. h)
    is_early (Loop path) = inr (λ h. h)
    is_early (NoMatch pattern) = inr (λ h. h)
    is_early Memory = inl tt

-- an answer with which all was carried out isn't one by which the work ended on its way
pub not_early : (answer : Outcome) → IsFinal answer → IsEarly answer → ⊥
not_early Done f h = h
not_early (Usage word kind) f h = h
not_early ReadFault f h = f
not_early WriteFault f h = f
not_early (Missing name) f h = h
not_early (BadExport file line kind) f h = h
not_early (BadScript fault) f h = h
not_early (OutOfProfile what) f h = h
not_early (TooLarge what most) f h = h
not_early (Differs key) f h = h
not_early (ScriptStopped stop) f h = h
not_early (BadArchive fault) f h = h
not_early (BadList fault) f h = h
not_early (BadDefn entry fault) f h = h
not_early (WithErrors errors) f h = h
not_early (RestoreStopped stop) f h = h
not_early (Loop path) f h = h
not_early (NoMatch pattern) f h = h
not_early Memory f h = f

-- no count rose by it
pub counted_final : (answer : Outcome) (a b : Counts) → IsFinal answer → b ≡ a → Counted answer a b
counted_final Done a b f e = e
counted_final (Usage word kind) a b f e = e
counted_final ReadFault a b f e = elim f [ ]
counted_final WriteFault a b f e = elim f [ ]
counted_final (Missing name) a b f e = e
counted_final (BadExport file line kind) a b f e = e
counted_final (BadScript fault) a b f e = e
counted_final (OutOfProfile what) a b f e = e
counted_final (TooLarge what most) a b f e = e
counted_final (Differs key) a b f e = e
counted_final (ScriptStopped stop) a b f e = e
counted_final (BadArchive fault) a b f e = e
counted_final (BadList fault) a b f e = e
counted_final (BadDefn entry fault) a b f e = e
counted_final (WithErrors errors) a b f e = e
counted_final (RestoreStopped stop) a b f e = e
counted_final (Loop path) a b f e = e
counted_final (NoMatch pattern) a b f e = e
counted_final Memory a b f e = e

-- where no count rose, what is answered has ended, or there was no memory
pub completed : (answer : Outcome) (words : List Bytes) (moment : Moment) (tree : Tree) (input : Bytes) (before after : World) (lines lines_after : ℕ) (a b : Counts) → NoneRose a b → Counted answer a b → Answered answer words moment tree input before after lines lines_after → Ended words moment tree input answer before after ⊎ (answer ≡ Memory)
completed Done words moment tree input before after lines lines_after a b none c h = inl h
completed (Usage word kind) words moment tree input before after lines lines_after a b none c h = inl h
completed ReadFault words moment tree input before after lines lines_after a b none c h = elim (none_early ReadFault a b none c (inl refl)) [ ]
completed WriteFault words moment tree input before after lines lines_after a b none c h = elim (none_early WriteFault a b none c (inr refl)) [ ]
completed (Missing name) words moment tree input before after lines lines_after a b none c h = inl h
completed (BadExport file line kind) words moment tree input before after lines lines_after a b none c h = inl h
completed (BadScript fault) words moment tree input before after lines lines_after a b none c h = inl h
completed (OutOfProfile what) words moment tree input before after lines lines_after a b none c h = inl h
completed (TooLarge what most) words moment tree input before after lines lines_after a b none c h = inl h
completed (Differs key) words moment tree input before after lines lines_after a b none c h = inl h
completed (ScriptStopped stop) words moment tree input before after lines lines_after a b none c h = inl h
completed (BadArchive fault) words moment tree input before after lines lines_after a b none c h = inl h
completed (BadList fault) words moment tree input before after lines lines_after a b none c h = inl h
completed (BadDefn entry fault) words moment tree input before after lines lines_after a b none c h = inl h
completed (WithErrors errors) words moment tree input before after lines lines_after a b none c h = inl h
completed (RestoreStopped stop) words moment tree input before after lines lines_after a b none c h = inl h
completed (Loop path) words moment tree input before after lines lines_after a b none c h = inl h
completed (NoMatch pattern) words moment tree input before after lines lines_after a b none c h = inl h
completed Memory words moment tree input before after lines lines_after a b none c h = inr refl
