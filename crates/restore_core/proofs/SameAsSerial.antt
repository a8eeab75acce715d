-- Where every entry has ended, what they have run in the order of the list is the serial restore.
use Rattle.std.proofs.Common.{◌≡◌, ℕ, zero, suc, Bool, true, false, ◌&&◌, List, [], ◌∷◌, ◌++◌, map, length, take, drop, Option, Some, None, refl, ap, sym, subst, ◌∙◌}
use Rattle.std.specs.List.{list_all, filter_map, flat_map}
use Rattle.std.proofs.lemmas.List.{take-append-drop}
use Rattle.std.proofs.Math.Seq.{take-length}
use Rattle.cat_model.specs.declared.cause.Cause.{Cause}
use Rattle.cat_model.specs.Values.{Bytes, Named}
use Rattle.restore_plan.specs.declared.status.EntryStatus.{EntryStatus}
use Rattle.restore_plan.specs.declared.status.EntryStatus.TheVariants.{Done, Refused, Skipped}
use Rattle.restore_plan.specs.declared.status.Note.{Note}
use Rattle.restore_plan.specs.declared.step.Step.{Step as Statement}
use Rattle.restore_plan.specs.declared.planned.Planned.{Planned}
use Rattle.restore_plan.specs.Serial.{Under_way, started, until_refusal, after_steps, first_blocked, status_of, left_by, Left, Restored, entry_left, with_entry, serial_behind}
use Rattle.restore_plan.specs.Serial as serial
use Rattle.restore_core.specs.declared.phase.Phase.{Phase}
use Rattle.restore_core.specs.declared.phase.Phase.TheVariants.{Waiting, Running, Ended}
use Rattle.restore_core.specs.Phases.{has_ended, status_in}
use Rattle.restore_core.specs.Machine.{Going, ended_of}
use Rattle.restore_core.specs.InOrder.{alone, in_list_order, AsRecorded}
use Rattle.restore_core.proofs.Booleans.{and_first, and_second, both_ways}
use Rattle.restore_core.proofs.Blocking.{Blocks}
use Rattle.restore_core.proofs.Ordered.{steps-append}

-- nothing runs behind a refusal
refusal-stays : (boot : Bytes) (id : ℕ) (ss : List Statement) (w : Under_way) (cause : Cause) → w.refused ≡ Some cause → after_steps boot id ss w ≡ w
refusal-stays boot id [] w cause e = refl
refusal-stays boot id (s ∷ ss) w cause e = ap (λ (r : Option Cause). after_steps boot id ss (until_refusal boot id w r s)) e ∙ refusal-stays boot id ss w cause e

all-steps : (boot : Bytes) (id m : ℕ) (ss : List Statement) (w : Under_way) (cause : Cause) → (after_steps boot id (take m ss) w).refused ≡ Some cause → after_steps boot id ss w ≡ after_steps boot id (take m ss) w
all-steps boot id m ss w cause e =
    ap (λ (ts : List Statement). after_steps boot id ts w) (sym (take-append-drop m ss))
    ∙ steps-append boot id (take m ss) (drop m ss) w
    ∙ refusal-stays boot id (drop m ss) (after_steps boot id (take m ss) w) cause e

no-steps : (boot : Bytes) (id : ℕ) (ss : List Statement) (w : Under_way) → after_steps boot id (take 0 ss) w ≡ w
no-steps boot id [] w = refl
no-steps boot id (s ∷ ss) w = refl

abbrev leaves : Named → EntryStatus → List Note → Left
leaves c s ns = record { catalogue = c; status = s; notes = ns }

left_parts : (c c' : Named) (s : EntryStatus) (ns ns' : List Note) → c ≡ c' → ns ≡ ns' → leaves c s ns ≡ leaves c' s ns'
left_parts c c' s ns ns' e g = ap (λ (m : Named). leaves m s ns) e ∙ ap (leaves c' s) g

left_at : (b : Under_way) (r : Option Cause) → b.refused ≡ r → left_by b ≡ record { catalogue = b.catalogue; status = status_of b r; notes = b.notes }
left_at b r e = ap (λ (q : Option Cause). record { catalogue = b.catalogue; status = status_of b q; notes = b.notes }) e

-- what an ended entry leaves is what was recorded of it
left-is : (boot : Bytes) (ended : serial.Ended) (n : Named) (p : Planned) (ns : List Note) (s : EntryStatus) (xs : List Going) → Blocks ended (record { plan = p; phase = Ended s; notes = ns } ∷ xs) → AsRecorded boot n (record { plan = p; phase = Ended s; notes = ns } ∷ xs) → entry_left boot p n (first_blocked ended p.deps) ≡ record { catalogue = (alone boot n (record { plan = p; phase = Ended s; notes = ns })).catalogue; status = s; notes = ns }
left-is boot ended n p ns Done xs blocks recorded =
    let b = after_steps boot p.id p.steps (started n) in
    let a = after_steps boot p.id (take (length p.steps) p.steps) (started n) in
    let same : b ≡ a = ap (λ (ss : List Statement). after_steps boot p.id ss (started n)) (sym (take-length p.steps)) in
    ap (entry_left boot p n) blocks.0 ∙ ap left_by same ∙ left_at a None recorded.2 ∙ left_parts a.catalogue a.catalogue Done a.notes ns refl recorded.1
left-is boot ended n p ns (Refused m cause) xs blocks recorded =
    let b = after_steps boot p.id p.steps (started n) in
    let a = after_steps boot p.id (take m p.steps) (started n) in
    ap (entry_left boot p n) blocks.0 ∙ ap left_by (all-steps boot p.id m p.steps (started n) cause recorded.2) ∙ left_at a (Some cause) recorded.2
    ∙ ap (λ (j : ℕ). record { catalogue = a.catalogue; status = Refused j cause; notes = a.notes }) recorded.0
    ∙ left_parts a.catalogue a.catalogue (Refused m cause) a.notes ns refl recorded.1
left-is boot ended n p ns (Skipped by) xs blocks recorded =
    let a = after_steps boot p.id (take 0 p.steps) (started n) in
    let none : a ≡ started n = no-steps boot p.id p.steps (started n) in
    ap (entry_left boot p n) blocks.0
    ∙ left_parts n a.catalogue (Skipped by) [] ns (ap (λ (w : Under_way). w.catalogue) (sym none)) (ap (λ (w : Under_way). w.notes) (sym none) ∙ recorded.1)

abbrev pub found : Bytes → Named → List Going → Restored
found boot n xs = record { catalogue = in_list_order boot n xs; statuses = filter_map (λ x. status_in x.phase) xs; notes = flat_map (λ x. x.notes) xs }

pub same-as-serial : (boot : Bytes) (xs : List Going) (ended : serial.Ended) (n : Named) → list_all (λ x. has_ended x.phase) xs ≡ true → Blocks ended xs → AsRecorded boot n xs → found boot n xs ≡ serial_behind boot ended n (map (λ x. x.plan) xs)
same-as-serial boot [] ended n all blocks recorded = refl
same-as-serial boot (x ∷ xs) ended n all blocks recorded =
    at x.phase refl blocks recorded (and_first (has_ended x.phase) (list_all (λ y. has_ended y.phase) xs) all)
    (λ e c b r. same-as-serial boot xs e c (and_second (has_ended x.phase) (list_all (λ y. has_ended y.phase) xs) all) b r)
  where
    at : (p : Phase) → x.phase ≡ p → Blocks ended (record { plan = x.plan; phase = x.phase; notes = x.notes } ∷ xs) → AsRecorded boot n (record { plan = x.plan; phase = x.phase; notes = x.notes } ∷ xs) → has_ended x.phase ≡ true
        → ((e : serial.Ended) (c : Named) → Blocks e xs → AsRecorded boot c xs → found boot c xs ≡ serial_behind boot e c (map (λ x. x.plan) xs))
        → found boot n (x ∷ xs) ≡ serial_behind boot ended n (map (λ x. x.plan) (x ∷ xs))
    at Waiting is b r h later = absurd (both_ways (has_ended x.phase) h (ap has_ended is))
    at (Running worker run) is b r h later = absurd (both_ways (has_ended x.phase) h (ap has_ended is))
    at (Ended s) is b r h later =
        let P : Phase → Type 0 = λ p. Blocks ended (record { plan = x.plan; phase = p; notes = x.notes } ∷ xs) → AsRecorded boot n (record { plan = x.plan; phase = p; notes = x.notes } ∷ xs)
        → found boot n (record { plan = x.plan; phase = p; notes = x.notes } ∷ xs) ≡ serial_behind boot ended n (map (λ x. x.plan) (x ∷ xs)) in
        subst P (sym is) (λ b r.
        let left = left-is boot ended n x.plan x.notes s xs b r in
        let e : Left = record { catalogue = (alone boot n (record { plan = x.plan; phase = Ended s; notes = x.notes })).catalogue; status = s; notes = x.notes } in
        ap (with_entry e) (later (ended ++ (x.plan.id, s) ∷ []) e.catalogue b.1 r.3)
        ∙ sym (ap (λ (l : Left). with_entry l (serial_behind boot (ended ++ (x.plan.id, l.status) ∷ []) l.catalogue (map (λ x. x.plan) xs))) left)) b r
