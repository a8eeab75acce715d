-- A state's entries, by the plan, the phases and the notes.
use Rattle.std.proofs.Common.{◌≡◌, ℕ, zero, suc, List, [], ◌∷◌, ◌++◌, map, length, replicate, Option, Some, refl, ap, arith}
use Rattle.std.proofs.Math.ListN.{set}
use Rattle.std.specs.List.{slice_get}
use Rattle.std.specs.Option.{option_map}
use Rattle.cat_model.specs.Values.{Named}
use Rattle.restore_plan.specs.declared.planned.Planned.{Planned}
use Rattle.restore_plan.specs.declared.status.Note.{Note}
use Rattle.restore_core.specs.declared.phase.Phase.{Phase}
use Rattle.restore_core.specs.declared.phase.Phase.TheVariants.{Waiting}
use Rattle.restore_core.specs.Machine.{Going, changed_at, first, in_phase}
use Rattle.restore_queue.specs.Lined.{AreGoing}
use Rattle.restore_board.specs.Kept.{goings}
use Rattle.restore_board.specs.Notes.{noted_at}

plans-in : (ps : List Planned) (fs : List Phase) (ns : List (List Note)) → length fs ≡ length ps → length ns ≡ length ps → map (λ x. x.plan) (goings ps fs ns) ≡ ps
plans-in [] fs ns ef en = refl
plans-in (p ∷ ps) [] ns ef en = absurd (omega arith)
plans-in (p ∷ ps) (f ∷ fs) [] ef en = absurd (omega arith)
plans-in (p ∷ ps) (f ∷ fs) (n ∷ ns) ef en = ap (λ (xs : List Planned). p ∷ xs) (plans-in ps fs ns (omega arith) (omega arith))

phases-in : (ps : List Planned) (fs : List Phase) (ns : List (List Note)) → length fs ≡ length ps → length ns ≡ length ps → map (λ x. x.phase) (goings ps fs ns) ≡ fs
phases-in [] [] ns ef en = refl
phases-in [] (f ∷ fs) ns ef en = absurd (omega arith)
phases-in (p ∷ ps) [] ns ef en = absurd (omega arith)
phases-in (p ∷ ps) (f ∷ fs) [] ef en = absurd (omega arith)
phases-in (p ∷ ps) (f ∷ fs) (n ∷ ns) ef en = ap (λ (xs : List Phase). f ∷ xs) (phases-in ps fs ns (omega arith) (omega arith))

pub are-going : (ps : List Planned) (fs : List Phase) (ns : List (List Note)) → length fs ≡ length ps → length ns ≡ length ps → AreGoing ps fs (goings ps fs ns)
are-going ps fs ns ef en = record { plans = plans-in ps fs ns ef en; are = phases-in ps fs ns ef en }

pub notes-of : (ps : List Planned) (fs : List Phase) (ns : List (List Note)) (i : ℕ) (x : Going) → slice_get (goings ps fs ns) i ≡ Some x → slice_get ns i ≡ Some x.notes
notes-of [] fs ns i x e = cc
notes-of (p ∷ ps) [] ns i x e = cc
notes-of (p ∷ ps) (f ∷ fs) [] i x e = cc
notes-of (p ∷ ps) (f ∷ fs) (n ∷ ns) zero x e = ap (λ (o : Option Going). option_map (λ (y : Going). y.notes) o) e
notes-of (p ∷ ps) (f ∷ fs) (n ∷ ns) (suc i) x e = notes-of ps fs ns i x e

pub first-goings : (opening : Named) (ps : List Planned) → goings ps (replicate (length ps) Waiting) (replicate (length ps) []) ≡ (first opening ps).entries
first-goings opening [] = refl
first-goings opening (p ∷ ps) = ap (λ (xs : List Going). record { plan = p; phase = Waiting; notes = [] } ∷ xs) (first-goings opening ps)

pub set-phase : (ps : List Planned) (fs : List Phase) (ns : List (List Note)) (i : ℕ) (f : Phase) → goings ps (set fs i f) ns ≡ changed_at (in_phase f) i (goings ps fs ns)
set-phase [] fs ns i f = refl
set-phase (p ∷ ps) [] ns i f = refl
set-phase (p ∷ ps) (g ∷ fs) [] zero f = refl
set-phase (p ∷ ps) (g ∷ fs) [] (suc i) f = refl
set-phase (p ∷ ps) (g ∷ fs) (n ∷ ns) zero f = refl
set-phase (p ∷ ps) (g ∷ fs) (n ∷ ns) (suc i) f = ap (λ (xs : List Going). record { plan = p; phase = g; notes = n } ∷ xs) (set-phase ps fs ns i f)

-- it is in another phase, with more notes
abbrev pub with_notes : Phase → List Note → Going → Going
with_notes f more x = record { plan = x.plan; phase = f; notes = x.notes ++ more }

pub set-both : (ps : List Planned) (fs : List Phase) (ns : List (List Note)) (i : ℕ) (f : Phase) (more : List Note) → goings ps (set fs i f) (noted_at ns i more) ≡ changed_at (with_notes f more) i (goings ps fs ns)
set-both [] fs ns i f more = refl
set-both (p ∷ ps) [] ns i f more = refl
set-both (p ∷ ps) (g ∷ fs) [] zero f more = refl
set-both (p ∷ ps) (g ∷ fs) [] (suc i) f more = refl
set-both (p ∷ ps) (g ∷ fs) (n ∷ ns) zero f more = refl
set-both (p ∷ ps) (g ∷ fs) (n ∷ ns) (suc i) f more = ap (λ (xs : List Going). record { plan = p; phase = g; notes = n } ∷ xs) (set-both ps fs ns i f more)
