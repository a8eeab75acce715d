-- A restore into a folder, as one of the program's plans.
use Rattle.std.proofs.Common.{◌≡◌, ℕ, ◌≤◌, ◌⊎◌, Option, Some, None, Result, Ok, Err, refl, sym, ap, subst, inl, inr, arith}
use Rattle.dump_ports.specs.Tree.{Tree}
use Rattle.dump_ports.specs.Faults.{HasRisen}
use Rattle.cat_model.specs.Values.{Bytes}
use Rattle.restore_tools.specs.Written.{files_written as files_restored}
use Rattle.restore_tools.specs.Due.{Restoring, answer_due, report_of as report_of_restore, restore_due as restoring_due}
use Rattle.restore_tools.specs.Standing.{IsAnswer, WasRestored, IsUntouched, CutInFiles, CutInReport, CountsReads}
use Rattle.restore_tools.specs.Standing.{IsUnmade as IsUnwritten, IsAnswerDue as IsRestoreDue, HasCut as HasRestoreCut, CountsWrites as CountsPuts}
use Rattle.tool_words.specs.declared.outcome.Outcome.{Outcome}
use Rattle.tool_words.specs.declared.outcome.Outcome.TheVariants.{Done, Usage, ReadFault, WriteFault, Missing, BadExport, BadScript, OutOfProfile, TooLarge, Differs, ScriptStopped, BadArchive, BadList, BadDefn, WithErrors, RestoreStopped, Loop, NoMatch, Memory}
use Rattle.tool_words.specs.declared.words.RestoreAsked.{RestoreAsked}
use Rattle.tool_words.specs.declared.words.Teller.{Teller}
use Rattle.tool_words.specs.Answers.{◌>>=◌, IsDue}
use Rattle.tool_words.proofs.Dues.{due_map}
use Rattle.dump_tools.specs.Due.{Plan, Restores, piped_archive, restored_due, folder_due, IsCarriedOut, WasDue, IsFinal, IsAnswerDue, IsUnmade, Counted, CountsStep, counts}
use Rattle.dump_tools.specs.Outputs.{world}
use Rattle.dump_tools.specs.Runs.{HasCut}
use Rattle.dump_tools.proofs.Counting.{alike}
use Rattle.dump_tools.proofs.Putting.{same_world, cut_none, cut_due, cut_in_files, cut_in_told, may_restore}

-- with its answer all was carried out
pub final_answer : (answer : Outcome) → IsAnswer answer → IsFinal answer
final_answer Done h = tt
final_answer (Usage word kind) h = elim h [ ]
final_answer ReadFault h = elim h [ ]
final_answer WriteFault h = elim h [ ]
final_answer (Missing name) h = elim h [ ]
final_answer (BadExport file line kind) h = elim h [ ]
final_answer (BadScript fault) h = elim h [ ]
final_answer (OutOfProfile what) h = elim h [ ]
final_answer (TooLarge what most) h = elim h [ ]
final_answer (Differs key) h = elim h [ ]
final_answer (ScriptStopped stop) h = elim h [ ]
final_answer (BadArchive fault) h = elim h [ ]
final_answer (BadList fault) h = elim h [ ]
final_answer (BadDefn entry fault) h = elim h [ ]
final_answer (WithErrors errors) h = tt
final_answer (RestoreStopped stop) h = tt
final_answer (Loop path) h = elim h [ ]
final_answer (NoMatch pattern) h = elim h [ ]
final_answer Memory h = elim h [ ]

-- ---- what is due

-- the restore that is due, as a plan
abbrev planned : Result Restoring Outcome → Result Plan Outcome
planned due = due >>= λ plan. Ok (Restores plan)

-- the restore that was due has run
restore_done : (due : Result Restoring Outcome) (answer : Outcome) (before after : Option Tree) (printed told told' : Option Bytes) → WasRestored due answer before after told told' → WasDue (planned due) answer before after printed printed told told'
restore_done due answer before after printed told told' w = record {
  plan = Restores w.plan;
  is_due = ap planned w.is_due;
  answers = w.answers;
  carried = (w.carried, refl);
}

pub piped_done : (asked : RestoreAsked) (piped : Bytes) (tree : Tree) (answer : Outcome) (before after : Option Tree) (printed told told' : Option Bytes)
    → WasRestored (restoring_due asked.folder asked.archive asked.words piped tree) answer before after told told' → WasDue (restored_due asked piped tree) answer before after printed printed told told'
unfolding restored_due
piped_done asked piped tree answer before after printed told told' w = restore_done (restoring_due asked.folder asked.archive asked.words piped tree) answer before after printed told told' w

unmade : (outcome : Outcome) (due : Result Restoring Outcome) → IsUnwritten outcome due → IsUnmade outcome (planned due)
unmade Done due h = elim h [ ]
unmade (Usage word kind) due h = elim h [ ]
unmade ReadFault due h = elim h [ ]
unmade WriteFault due h = elim h [ ]
unmade (Missing name) due h = elim h [ ]
unmade (BadExport file line kind) due h = elim h [ ]
unmade (BadScript fault) due h = elim h [ ]
unmade (OutOfProfile what) due h = (h.0, inr (h.1.0, ap planned h.1.1, h.1.2))
unmade (TooLarge what most) due h = inr (h.0, ap planned h.1, h.2)
unmade (Differs key) due h = elim h [ ]
unmade (ScriptStopped stop) due h = elim h [ ]
unmade (BadArchive fault) due h = elim h [ ]
unmade (BadList fault) due h = elim h [ ]
unmade (BadDefn entry fault) due h = elim h [ ]
unmade (WithErrors errors) due h = elim h [ ]
unmade (RestoreStopped stop) due h = elim h [ ]
unmade (Loop path) due h = elim h [ ]
unmade (NoMatch pattern) due h = elim h [ ]
unmade Memory due h = elim h [ ]

-- its answer is due
restore_answered : (outcome : Outcome) (due : Result Restoring Outcome) → IsRestoreDue outcome due → IsAnswerDue outcome (planned due)
restore_answered outcome due (inl d) = inl (due_map outcome due (planned due) (λ o e. ap planned e) d)
restore_answered outcome due (inr h) = inr (inr (unmade outcome due h))

pub piped_answered : (asked : RestoreAsked) (piped : Bytes) (tree : Tree) (outcome : Outcome) → IsRestoreDue outcome (restoring_due asked.folder asked.archive asked.words piped tree) → IsAnswerDue outcome (restored_due asked piped tree)
unfolding restored_due
piped_answered asked piped tree outcome d = restore_answered outcome (restoring_due asked.folder asked.archive asked.words piped tree) d

-- ---- how far it came

untouched : (teller : Teller) (due : Result Restoring Outcome) (before after : Option Tree) (left printed told told' : Option Bytes) → IsUntouched before after told told' → HasCut None teller (planned due) (world before left printed told) (world after left printed told')
untouched teller due before after left printed told told' u = cut_none teller (planned due) _ _ (same_world after before left printed printed told' told u.kept refl u.silent)

in_files : (teller : Teller) (plan : Restoring) (before after : Option Tree) (left printed told told' : Option Bytes) → CutInFiles plan before after told told' → HasCut None teller (Ok (Restores plan)) (world before left printed told) (world after left printed told')
in_files teller plan before after left printed told told' h =
    subst (λ t. HasCut None teller (Ok (Restores plan)) (world before left printed told) (world after left printed t)) (sym h.silent)
    (cut_in_files teller (Ok (Restores plan)) (files_restored plan.folder h.texts) (report_of_restore plan) (answer_due plan) (may_restore teller plan h.texts h.leaves) before after left printed told h.saved)

in_report : (teller : Teller) (plan : Restoring) (before after : Option Tree) (left printed told told' : Option Bytes) → CutInReport plan before after told told' → HasCut None teller (Ok (Restores plan)) (world before left printed told) (world after left printed told')
in_report teller plan before after left printed told told' h =
    cut_in_told teller (Ok (Restores plan)) (files_restored plan.folder h.restored.texts) (report_of_restore plan) (answer_due plan) (may_restore teller plan h.restored.texts h.restored.leaves)
    before after left printed told told' h.restored.saved h.told

-- its outputs were cut short
restore_cut : (teller : Teller) (due : Result Restoring Outcome) (before after : Option Tree) (left printed told told' : Option Bytes) → HasRestoreCut due before after told told' → HasCut None teller (planned due) (world before left printed told) (world after left printed told')
restore_cut teller due before after left printed told told' (inl u) = untouched teller due before after left printed told told' u
restore_cut teller due before after left printed told told' (inr (plan, is, inl u)) = untouched teller due before after left printed told told' u
restore_cut teller due before after left printed told told' (inr (plan, is, inr (inl h))) = cut_due teller None None _ _ _ _ refl (ap planned is) (in_files teller plan before after left printed told told' h)
restore_cut teller due before after left printed told told' (inr (plan, is, inr (inr h))) = cut_due teller None None _ _ _ _ refl (ap planned is) (in_report teller plan before after left printed told told' h)

pub piped_cut : (asked : RestoreAsked) (piped : Bytes) (tree : Tree) (teller : Teller) (before after : Option Tree) (left printed told told' : Option Bytes)
    → HasRestoreCut (restoring_due asked.folder asked.archive asked.words piped tree) before after told told' → HasCut None teller (restored_due asked piped tree) (world before left printed told) (world after left printed told')
unfolding restored_due
piped_cut asked piped tree teller before after left printed told told' h = restore_cut teller (restoring_due asked.folder asked.archive asked.words piped tree) before after left printed told told' h

-- ---- counts

read_failed : (r r' i w w' p l l' : ℕ) → (r ≤ r') × HasRisen r r' → w' ≡ w → l' ≡ l → Counted ReadFault (counts r i w p l) (counts r' i w' p l')
read_failed r r' i w w' p l l' c a b = (record { reads = c.0; inputs = omega arith; writes = omega arith; prints = omega arith; lines = omega arith }, inl c.1)

write_failed : (r r' i w w' p l l' : ℕ) → r' ≡ r → w ≤ w' → l ≤ l' → HasRisen w w' ⊎ HasRisen l l' → Counted WriteFault (counts r i w p l) (counts r' i w' p l')
write_failed r r' i w w' p l l' e a b h = (record { reads = omega arith; inputs = omega arith; writes = a; prints = omega arith; lines = b }, either h)
  where
    either : HasRisen w w' ⊎ HasRisen l l' → HasRisen w w' ⊎ HasRisen p p ⊎ HasRisen l l'
    either (inl h) = inl h
    either (inr h) = inr (inr h)

counted_restore : (X : Type 0) (o : Outcome) (r r' i w w' p l l' : ℕ) → CountsReads {X = X} (Err o) r r' → CountsPuts {X = X} (Err o) w w' l l' → Counted o (counts r i w p l) (counts r' i w' p l')
counted_restore X Done r r' i w w' p l l' e c = alike r r' i i w w' p p l l' e refl c.0 refl c.1
counted_restore X (Usage word kind) r r' i w w' p l l' e c = alike r r' i i w w' p p l l' e refl c.0 refl c.1
counted_restore X ReadFault r r' i w w' p l l' e c = read_failed r r' i w w' p l l' e c.0 c.1
counted_restore X WriteFault r r' i w w' p l l' e c = write_failed r r' i w w' p l l' e c.0 c.1 c.2
counted_restore X (Missing name) r r' i w w' p l l' e c = alike r r' i i w w' p p l l' e refl c.0 refl c.1
counted_restore X (BadExport file line kind) r r' i w w' p l l' e c = alike r r' i i w w' p p l l' e refl c.0 refl c.1
counted_restore X (BadScript fault) r r' i w w' p l l' e c = alike r r' i i w w' p p l l' e refl c.0 refl c.1
counted_restore X (OutOfProfile what) r r' i w w' p l l' e c = alike r r' i i w w' p p l l' e refl c.0 refl c.1
counted_restore X (TooLarge what most) r r' i w w' p l l' e c = alike r r' i i w w' p p l l' e refl c.0 refl c.1
counted_restore X (Differs key) r r' i w w' p l l' e c = alike r r' i i w w' p p l l' e refl c.0 refl c.1
counted_restore X (ScriptStopped stop) r r' i w w' p l l' e c = alike r r' i i w w' p p l l' e refl c.0 refl c.1
counted_restore X (BadArchive fault) r r' i w w' p l l' e c = alike r r' i i w w' p p l l' e refl c.0 refl c.1
counted_restore X (BadList fault) r r' i w w' p l l' e c = alike r r' i i w w' p p l l' e refl c.0 refl c.1
counted_restore X (BadDefn entry fault) r r' i w w' p l l' e c = alike r r' i i w w' p p l l' e refl c.0 refl c.1
counted_restore X (WithErrors errors) r r' i w w' p l l' e c = alike r r' i i w w' p p l l' e refl c.0 refl c.1
counted_restore X (RestoreStopped stop) r r' i w w' p l l' e c = alike r r' i i w w' p p l l' e refl c.0 refl c.1
counted_restore X (Loop path) r r' i w w' p l l' e c = alike r r' i i w w' p p l l' e refl c.0 refl c.1
counted_restore X (NoMatch pattern) r r' i w w' p l l' e c = alike r r' i i w w' p p l l' e refl c.0 refl c.1
counted_restore X Memory r r' i w w' p l l' e c = alike r r' i i w w' p p l l' e refl c.0 refl c.1

-- the counts of a restore
pub step_restore : {X : Type 0} (o : Result X Outcome) (r r' i w w' p l l' : ℕ) → CountsReads o r r' → CountsPuts o w w' l l' → CountsStep o (counts r i w p l) (counts r' i w' p l')
step_restore (Ok x) r r' i w w' p l l' e c = alike r r' i i w w' p p l l' e refl c.0 refl c.1
step_restore {X = X} (Err o) r r' i w w' p l l' e c = counted_restore X o r r' i w w' p l l' e c

-- ---- once standard input is taken

pub folder_read : (asked : RestoreAsked) (tree : Tree) (input piped : Bytes) → piped_archive asked.archive input ≡ Ok piped → folder_due asked tree input ≡ restored_due asked piped tree
unfolding folder_due
folder_read asked tree input piped e = ap (λ (r : Result Bytes Outcome). r >>= λ piped. restored_due asked piped tree) e

pub folder_refused : (outcome : Outcome) (asked : RestoreAsked) (tree : Tree) (input : Bytes) → IsDue outcome (piped_archive asked.archive input) → IsDue outcome (folder_due asked tree input)
unfolding folder_due
folder_refused outcome asked tree input d =
    due_map outcome (piped_archive asked.archive input) (piped_archive asked.archive input >>= λ piped. restored_due asked piped tree)
    (λ o e. ap (λ (r : Result Bytes Outcome). r >>= λ piped. restored_due asked piped tree) e) d

pub folder_done : (asked : RestoreAsked) (tree : Tree) (input piped : Bytes) (answer : Outcome) (start after : Option Tree) (printed told told' : Option Bytes) → piped_archive asked.archive input ≡ Ok piped → WasDue (restored_due asked piped tree) answer start after printed printed told told' → WasDue (folder_due asked tree input) answer start after printed printed told told'
folder_done asked tree input piped answer start after printed told told' e w =
    subst (λ (d : Result Plan Outcome). WasDue d answer start after printed printed told told') (sym (folder_read asked tree input piped e)) w
