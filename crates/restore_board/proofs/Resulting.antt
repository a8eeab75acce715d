-- What a state's result is, told by the phases and the notes.
use Rattle.std.proofs.Common.{◌≡◌, ℕ, ◌≤◌, true, List, [], ◌∷◌, ◌++◌, length, refl, ap, sym, subst, ◌∙◌, arith}
use Rattle.std.specs.List.{cons_option, filter_map, flat_map}
use Rattle.cat_model.specs.Values.{Bytes, Named}
use Rattle.restore_plan.specs.declared.entry.Entry.{Entry}
use Rattle.restore_plan.specs.declared.planned.Planned.{Planned}
use Rattle.restore_plan.specs.declared.status.EntryStatus.{EntryStatus}
use Rattle.restore_plan.specs.declared.status.Note.{Note}
use Rattle.restore_plan.specs.Order.{plan}
use Rattle.restore_plan.specs.Serial.{Restored, serial}
use Rattle.restore_core.specs.declared.event.Event.{Event}
use Rattle.restore_core.specs.declared.phase.Phase.{Phase}
use Rattle.restore_core.specs.declared.phase.Phase.TheVariants.{Waiting, Running, Ended}
use Rattle.restore_core.specs.Machine.{IsLegal, after, all_ended, first, result_of}
use Rattle.restore_core.specs.Phases.{status_in}
use Rattle.restore_board.specs.Kept.{Kept, goings}
use Rattle.restore_board.specs.Notes.{all_notes}
use Rattle.restore_board.specs.Standing.{HasLegalHistory, Standing, state}
use Rattle.restore_board.proofs.Told.{leads-to}

pub statuses-are : (ps : List Planned) (fs : List Phase) (ns : List (List Note)) → length fs ≡ length ps → length ns ≡ length ps → filter_map (λ x. status_in x.phase) (goings ps fs ns) ≡ filter_map status_in fs
statuses-are [] [] ns ef en = refl
statuses-are [] (f ∷ fs) ns ef en = absurd (omega arith)
statuses-are (p ∷ ps) [] ns ef en = absurd (omega arith)
statuses-are (p ∷ ps) (f ∷ fs) [] ef en = absurd (omega arith)
statuses-are (p ∷ ps) (f ∷ fs) (n ∷ ns) ef en = ap (cons_option (status_in f)) (statuses-are ps fs ns (omega arith) (omega arith))

pub notes-are : (ps : List Planned) (fs : List Phase) (ns : List (List Note)) → length fs ≡ length ps → length ns ≡ length ps → flat_map (λ x. x.notes) (goings ps fs ns) ≡ all_notes ns
notes-are [] fs [] ef en = refl
notes-are [] fs (n ∷ ns) ef en = absurd (omega arith)
notes-are (p ∷ ps) [] ns ef en = absurd (omega arith)
notes-are (p ∷ ps) (f ∷ fs) [] ef en = absurd (omega arith)
notes-are (p ∷ ps) (f ∷ fs) (n ∷ ns) ef en = ap (λ (l : List Note). n ++ l) (notes-are ps fs ns (omega arith) (omega arith))

abbrev left_as : Named → List EntryStatus → List Note → Restored
left_as named statuses notes = record { catalogue = named; statuses = statuses; notes = notes }

-- the law of schedules
abbrev pub AnySerial : Type 0
AnySerial = (boot : Bytes) (opening : Named) (es : List Entry) (events : List Event) → IsLegal boot (first opening (plan opening es)) events → all_ended (after boot (first opening (plan opening es)) events) ≡ true → result_of (after boot (first opening (plan opening es)) events) ≡ serial boot opening (plan opening es)

module _ (s : Standing) (named : Named) (role : Bytes) (phases : List Phase) (notes : List (List Note)) (events : ℕ) (statuses : List EntryStatus) (room : ℕ) (k : Kept s named role phases notes events statuses room) (was : Standing) (is : s ≡ was) (told : List EntryStatus) (noted : List Note) (by_phases : told ≡ filter_map status_in phases) (by_notes : noted ≡ all_notes notes) where
  -- what is left of the state
  pub result-is : result_of (state was) ≡ record { catalogue = named; statuses = told; notes = noted }
  result-is =
      ap result_of (leads-to s named role phases notes events statuses room k was is)
      ∙ ap (λ (x : List EntryStatus). left_as named x (flat_map (λ y. y.notes) (goings s.plan phases notes))) (statuses-are s.plan phases notes k.many_phases k.many_notes ∙ sym by_phases)
      ∙ ap (left_as named told) (notes-are s.plan phases notes k.many_phases k.many_notes ∙ sym by_notes)

  -- once every entry has ended it is what the serial restore leaves
  pub result-serial : (law : AnySerial) (es : List Entry) → was.plan ≡ plan was.opening es → all_ended (state was) ≡ true → serial was.boot was.opening was.plan ≡ record { catalogue = named; statuses = told; notes = noted }
  result-serial law es e ended =
      let legal : IsLegal was.boot (first was.opening was.plan) was.history = subst HasLegalHistory is k.legal in
      ap (serial was.boot was.opening) e
      ∙ sym
      (law was.boot was.opening es was.history
      (subst (λ (p : List Planned). IsLegal was.boot (first was.opening p) was.history) e legal)
      (subst (λ (p : List Planned). all_ended (after was.boot (first was.opening p) was.history) ≡ true) e ended))
      ∙ ap (λ (p : List Planned). result_of (after was.boot (first was.opening p) was.history)) (sym e)
      ∙ result-is

-- one phase after another
pub one-status : (phase : Phase) (rest : List Phase) → filter_map status_in (phase ∷ rest) ≡ filter_map status_in (phase ∷ []) ++ filter_map status_in rest
one-status Waiting rest = refl
one-status (Running worker run) rest = refl
one-status (Ended status) rest = refl

pub one-at-most : (phase : Phase) → length (filter_map status_in (phase ∷ [])) ≤ 1
one-at-most Waiting = omega arith
one-at-most (Running worker run) = omega arith
one-at-most (Ended status) = omega arith
