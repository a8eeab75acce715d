-- The restore of what was written, as a run.
use Rattle.std.proofs.Common.{◌≡◌, List, [], ◌∷◌, ◌++◌, map, Option, option_map, Result, Ok, Err, refl, sym, ap, subst, ◌∙◌, ◌⊎◌, inl, inr}
use Rattle.cat_model.specs.Values.{Bytes, Named}
use Rattle.cat_rows.specs.declared.catalogue.Catalogue.{Catalogue}
use Rattle.clone_restores.specs.Due.{Restoration, answer_of}
use Rattle.clone_restores.specs.Standing.{IsAnswer, WasRestored, IsUnmade, CutInFiles, CutInReport, IsCutOff}
use Rattle.clone_tools.specs.Runs.{MayRestore}
use Rattle.dump_ports.specs.Tree.{Tree}
use Rattle.dump_tools.specs.Due.{IsFinal}
use Rattle.dump_tools.specs.Outputs.{World, world, Output, Tells, all_performed, IsPart, CutShort, stores}
use Rattle.dump_tools.specs.Runs.{Run, told_run, IsUnmadeAnswer, IsEarly}
use Rattle.dump_tools.proofs.Putting.{same_world, all_put, whole_put, folder_cut, told_part, stored_run}
use Rattle.saved_folders.specs.Exports.{WithTexts}
use Rattle.saved_folders.specs.Files.{saved}
use Rattle.saved_folders.specs.Folders.{files_of}
use Rattle.clone_restores.specs.Writing.{IsUnwritten, StandFor}
use Rattle.tool_words.specs.declared.outcome.Outcome.{Outcome}
use Rattle.tool_words.specs.declared.outcome.Outcome.TheVariants.{Done, Usage, ReadFault, WriteFault, Missing, BadExport, BadScript, OutOfProfile, TooLarge, Differs, ScriptStopped, BadArchive, BadList, BadDefn, WithErrors, RestoreStopped, Loop, NoMatch, Memory}
use Rattle.tool_words.specs.declared.words.Teller.{Teller}
use Rattle.tool_words.specs.Answers.{IsDue}

-- a run of what is due has ended
pub record Came (teller : Teller) (due : Result Restoration Outcome) (answer : Outcome) (before after : World) : Type 0 where
  pub run : Run
  pub may : MayRestore teller due run
  pub answers : answer ≡ run.answer
  pub put : after ≡ all_performed run.outputs before

-- outputs of such a run, or none, were cut short
pub record IsCutShort (teller : Teller) (due : Result Restoration Outcome) (before after : World) : Type 0 where
  pub outputs : List Output
  pub of_run : (outputs ≡ []) ⊎ ((run : Run) × MayRestore teller due run × (outputs ≡ run.outputs))
  pub cut : CutShort outputs before after

-- ---- the run of a plan

-- its files, and what is told, with its answer
abbrev run_by : Restoration → WithTexts → Run
run_by plan made = stored_run (files_of plan.folder made.texts) plan.told (answer_of plan)

may_be : (teller : Teller) (due : Result Restoration Outcome) (plan : Restoration) (made : WithTexts) → due ≡ Ok plan → StandFor plan.opening.cat plan.left made → MayRestore teller due (run_by plan made)
may_be teller due plan made is stand =
    subst (λ (d : Result Restoration Outcome). MayRestore teller d (run_by plan made)) (sym is) (inl (record { texts = made; stand = stand; is = refl }))

-- ---- it has ended

pub came : (teller : Teller) (due : Result Restoration Outcome) (answer : Outcome) (before after : Option Tree) (left out told told' : Option Bytes) → WasRestored due answer before after told told' → Came teller due answer (world before left out told) (world after left out told')
came teller due answer before after left out told told' w =
    let written = w.carried.written in
    let files = files_of w.plan.folder written.texts.texts in
    record {
      run = run_by w.plan written.texts;
      may = may_be teller due w.plan written.texts w.is_due written.stand;
      answers = w.answers;
      put = same_world after (option_map (saved files) before) left out out told' (option_map (λ t. t ++ w.plan.told) told) written.saved refl w.carried.told
          ∙ sym (all_put files (Tells w.plan.told ∷ []) before left out told);
    }

-- ---- it ended early

-- the storing of the files ended on its way
cut_in_files : (teller : Teller) (due : Result Restoration Outcome) (plan : Restoration) (before after : Option Tree) (left out told told' : Option Bytes) → due ≡ Ok plan → CutInFiles plan before after told told' → IsCutShort teller due (world before left out told) (world after left out told')
cut_in_files teller due plan before after left out told told' is h =
    subst (λ t. IsCutShort teller due (world before left out told) (world after left out t)) (sym h.silent)
    (record {
      outputs = (run_by plan h.texts).outputs;
      of_run = inr (run_by plan h.texts, may_be teller due plan h.texts is h.stand, refl);
      cut = folder_cut (files_of plan.folder h.texts.texts) (Tells plan.told ∷ []) before after left out told h.saved;
    })

-- the telling of what was refused did
cut_in_report : (teller : Teller) (due : Result Restoration Outcome) (plan : Restoration) (before after : Option Tree) (left out told told' : Option Bytes) → due ≡ Ok plan → CutInReport plan before after told told' → IsCutShort teller due (world before left out told) (world after left out told')
cut_in_report teller due plan before after left out told told' is h =
    let made = h.written.texts in
    let files = files_of plan.folder made.texts in
    record {
      outputs = (run_by plan made).outputs;
      of_run = inr (run_by plan made, may_be teller due plan made is h.written.stand, refl);
      cut = record {
        whole = map stores files;
        later = Tells plan.told ∷ [];
        split = refl;
        cut = subst (λ w. IsPart (Tells plan.told) w (world after left out told'))
            (ap (λ tree. world tree left out told) h.written.saved ∙ sym (whole_put files before left out told))
            (told_part after left out told told' plan.told h.told);
      };
    }

pub cut_off : (teller : Teller) (due : Result Restoration Outcome) (plan : Restoration) (before after : Option Tree) (left out told told' : Option Bytes) → due ≡ Ok plan → IsCutOff plan before after told told' → IsCutShort teller due (world before left out told) (world after left out told')
cut_off teller due plan before after left out told told' is (inl h) = cut_in_files teller due plan before after left out told told' is h
cut_off teller due plan before after left out told told' is (inr h) = cut_in_report teller due plan before after left out told told' is h

-- nothing was put out
pub cut_none : (teller : Teller) (due : Result Restoration Outcome) (before after : World) → after ≡ before → IsCutShort teller due before after
cut_none teller due before after e = record { outputs = []; of_run = inl refl; cut = record { whole = []; later = []; split = refl; cut = e } }

-- what isn't early and is due is what is due
pub is_refused : {X : Type 0} (outcome : Outcome) (due : Result X Outcome) → (IsEarly outcome → ⊥) → IsDue outcome due → due ≡ Err outcome
is_refused Done due late d = d
is_refused (Usage word kind) due late d = d
is_refused ReadFault due late d = elim (late tt) [ ]
is_refused WriteFault due late d = elim (late tt) [ ]
is_refused (Missing name) due late d = d
is_refused (BadExport file line kind) due late d = d
is_refused (BadScript fault) due late d = d
is_refused (OutOfProfile what) due late d = d
is_refused (TooLarge what most) due late d = d
is_refused (Differs key) due late d = d
is_refused (ScriptStopped stop) due late d = d
is_refused (BadArchive fault) due late d = d
is_refused (BadList fault) due late d = d
is_refused (BadDefn entry fault) due late d = d
is_refused (WithErrors errors) due late d = d
is_refused (RestoreStopped stop) due late d = d
is_refused (Loop path) due late d = d
is_refused (NoMatch pattern) due late d = d
is_refused Memory due late d = elim (late tt) [ ]

-- ---- its answer's line

may_refuse : (teller : Teller) (due : Result Restoration Outcome) (outcome : Outcome) → due ≡ Err outcome → MayRestore teller due (told_run teller outcome)
may_refuse teller due outcome is = subst (λ (d : Result Restoration Outcome). MayRestore teller d (told_run teller outcome)) (sym is) refl

-- what isn't written has one of these answers, but for want of memory
unmade_answer : (opening : Catalogue) (named : Named) (outcome : Outcome) → (IsEarly outcome → ⊥) → IsUnwritten opening named outcome → IsUnmadeAnswer opening named outcome
unmade_answer opening named (OutOfProfile what) late h = h
unmade_answer opening named (TooLarge limit most) late h = h
unmade_answer opening named Memory late h = elim (late tt) [ ]
unmade_answer opening named outcome late h = elim h [ ]

may_stop : (teller : Teller) (due : Result Restoration Outcome) (outcome : Outcome) → (IsEarly outcome → ⊥) → IsUnmade outcome due → MayRestore teller due (told_run teller outcome)
may_stop teller due outcome late h =
    subst (λ (d : Result Restoration Outcome). MayRestore teller d (told_run teller outcome)) (sym h.is_due) (inr (outcome, unmade_answer h.plan.opening.cat h.plan.left outcome late h.unwritten, refl))

pub may_tell : (teller : Teller) (due : Result Restoration Outcome) (outcome : Outcome) → (IsEarly outcome → ⊥) → IsDue outcome due ⊎ IsUnmade outcome due → MayRestore teller due (told_run teller outcome)
may_tell teller due outcome late (inl d) = may_refuse teller due outcome (is_refused outcome due late d)
may_tell teller due outcome late (inr h) = may_stop teller due outcome late h

-- with such an answer all was carried out
pub final_answer : (outcome : Outcome) → IsAnswer outcome → IsFinal outcome
final_answer Done h = tt
final_answer (WithErrors errors) h = tt
final_answer outcome h = elim h [ ]
