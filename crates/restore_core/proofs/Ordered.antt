-- One step of an entry, taken last, is one step taken in its place.
use Rattle.std.proofs.Common.{◌≡◌, ℕ, zero, suc, ◌+◌, ◌≤◌, ◌<◌, Bool, true, false, not, ◌||◌, cond, nat_lt, List, [], ◌∷◌, ◌++◌, map, length, take, Option, Some, None, Result, Ok, Err, refl, ap, sym, subst, ◌∙◌, arith}
use Rattle.std.specs.List.{slice_get}
use Rattle.std.proofs.lemmas.Option.{slice_get_within}
use Rattle.cat_model.specs.declared.footprint.Footprint.{Footprint}
use Rattle.cat_model.specs.declared.cause.Cause.{Cause}
use Rattle.cat_model.specs.declared.object.QName.{QName}
use Rattle.cat_model.specs.Values.{Bytes, Named}
use Rattle.cat_model.specs.Effects.{effect}
use Rattle.cat_model.specs.Marks.{IsWithin, conflict}
use Rattle.cat_model.specs.Trees.{Change, Tree, seen, outcome, next}
use Rattle.restore_plan.specs.declared.status.EntryStatus.{EntryStatus}
use Rattle.restore_plan.specs.declared.status.EntryStatus.TheVariants.{Done, Refused, Skipped}
use Rattle.restore_plan.specs.declared.status.Note.{Note}
use Rattle.restore_plan.specs.declared.step.Step.{Step}
use Rattle.restore_plan.specs.Entries.{is_among}
use Rattle.restore_plan.specs.declared.planned.Planned.{Planned}
use Rattle.restore_plan.specs.Order.{before}
use Rattle.restore_plan.specs.Places.{Given, Stays, AllStay, InPlace, InPlaces}
use Rattle.restore_plan.specs.Serial.{Under_way, started, noted, ending, one_more, until_refusal, after_steps}
use Rattle.restore_core.specs.declared.phase.Phase.{Phase}
use Rattle.restore_core.specs.declared.phase.Phase.TheVariants.{Waiting, Running, Ended}
use Rattle.restore_core.specs.Phases.{is_waiting, has_ended}
use Rattle.restore_core.specs.Machine.{Going, changed_at, under_way, ran_next, phase_behind}
use Rattle.restore_core.specs.InOrder.{count_run, refusal_in, alone, in_list_order, AsRecorded}
use Rattle.restore_core.proofs.Booleans.{or_second_false, or_other, not_true}
use Rattle.restore_core.proofs.Pairs.{to, head_is, no_head, Orders, OrdersLater, Orderly}
use Rattle.restore_core.proofs.Exchange.{ChangePlaces, Apart, Later, past_entries, given-alone}

-- ---- the statements of one entry

pub steps-append : (boot : Bytes) (id : ℕ) (ss ts : List Step) (w : Under_way) → after_steps boot id (ss ++ ts) w ≡ after_steps boot id ts (after_steps boot id ss w)
steps-append boot id [] ts w = refl
steps-append boot id (s ∷ ss) ts w = steps-append boot id ss ts (until_refusal boot id w w.refused s)

pub take-next : (ss : List Step) (k : ℕ) (s : Step) → slice_get ss k ≡ Some s → take (suc k) ss ≡ take k ss ++ s ∷ []
take-next [] k s e = no_head s e
take-next (t ∷ ts) zero s e = ap (λ (u : Step). u ∷ []) (head_is t s e)
take-next (t ∷ ts) (suc k) s e = ap (λ (us : List Step). t ∷ us) (take-next ts k s e)

get-none : (ss : List Step) (k : ℕ) → slice_get ss k ≡ None → length ss ≤ k
get-none [] k e = omega arith
get-none (s ∷ ss) zero e = cc
get-none (s ∷ ss) (suc k) e = let h = get-none ss k e in omega arith

run-one : (boot : Bytes) (id : ℕ) (w : Under_way) (r : Option Cause) (s : Step) → (until_refusal boot id w r s).run ≤ w.run + 1
run-one boot id w None s = omega arith
run-one boot id w (Some cause) s = omega arith

run-bound : (boot : Bytes) (id : ℕ) (ss : List Step) (w : Under_way) → (after_steps boot id ss w).run ≤ w.run + length ss
run-bound boot id [] w = omega arith
run-bound boot id (s ∷ ss) w =
    let h = run-bound boot id ss (until_refusal boot id w w.refused s) in
    let g = run-one boot id w w.refused s in
    omega arith

take-bound : (k : ℕ) (ss : List Step) → length (take k ss) ≤ length ss
take-bound zero [] = omega arith
take-bound zero (s ∷ ss) = omega arith
take-bound (suc k) [] = omega arith
take-bound (suc k) (s ∷ ss) = let h = take-bound k ss in omega arith

-- ---- what the phase behind a step records

count-behind : (worker many : ℕ) (u : Under_way) (r : Option Cause) → u.run ≤ many → count_run many (phase_behind worker many u r) ≡ u.run
count-behind worker many u (Some cause) h = refl
count-behind worker many u None h = at (nat_lt u.run many) refl
  where
    at : (b : Bool) → nat_lt u.run many ≡ b → count_run many (cond b (Running worker u.run) (Ended Done)) ≡ u.run
    at true e = refl
    at false e = let g : many ≤ u.run = grind arith in omega arith

refusal-behind : (worker many : ℕ) (u : Under_way) (r : Option Cause) → refusal_in (phase_behind worker many u r) ≡ r
refusal-behind worker many u (Some cause) = refl
refusal-behind worker many u None = at (nat_lt u.run many)
  where
    at : (b : Bool) → refusal_in (cond b (Running worker u.run) (Ended Done)) ≡ None
    at true = refl
    at false = refl

-- ---- the step

-- behind a step the catalogue is that of the step, in the order of the list, and all is as recorded
pub record Stepped (boot : Bytes) (n : Named) (u : Under_way) (ys : List Going) : Type 0 where
  pub order : in_list_order boot n ys ≡ u.catalogue
  pub recorded : AsRecorded boot n ys

-- an entry of which this many statements have run leaves what was recorded
concluded : (boot : Bytes) (n : Named) (x : Planned) (p : Phase) (u b : Under_way) (ys : List Going) → count_run (length x.steps) p ≡ u.run → refusal_in p ≡ u.refused → after_steps boot x.id (take u.run x.steps) (started n) ≡ b → b.run ≡ u.run → b.notes ≡ u.notes → b.refused ≡ u.refused → in_list_order boot b.catalogue ys ≡ u.catalogue → AsRecorded boot b.catalogue ys → Stepped boot n u (record { plan = x; phase = p; notes = u.notes } ∷ ys)
concluded boot n x p u b ys count refusal is run notes refused order recorded =
    let same : alone boot n (record { plan = x; phase = p; notes = u.notes }) ≡ b = ap (λ (j : ℕ). after_steps boot x.id (take j x.steps) (started n)) count ∙ is in
    record {
      order = ap (λ (w : Under_way). in_list_order boot w.catalogue ys) same ∙ order;
      recorded = (
        ap (λ (w : Under_way). w.run) same ∙ run ∙ sym count,
        ap (λ (w : Under_way). w.notes) same ∙ notes,
        ap (λ (w : Under_way). w.refused) same ∙ refused ∙ sym refusal,
        subst (λ (w : Under_way). AsRecorded boot w.catalogue ys) (sym same) recorded,
      );
    }

-- those behind an entry that goes on, and that have begun, don't conflict with it
pub apart-later : (x : Going) (ys : List Going) → has_ended x.phase ≡ false → OrdersLater x ys → Apart x.plan.footprint ys
apart-later x [] going h = tt
apart-later x (y ∷ ys) going h = (
  λ begun. or_second_false (is_among x.plan.id y.plan.deps) (conflict x.plan.footprint y.plan.footprint) (not_true (before x.plan y.plan) (or_other (has_ended x.phase) (not (before x.plan y.plan)) going (h.0 begun))),
  apart-later x ys going h.1,
)

as_parts : (w : Under_way) (k : ℕ) (ns : List Note) → w.run ≡ k → w.notes ≡ ns → w.refused ≡ None → w ≡ record { catalogue = w.catalogue; run = k; notes = ns; refused = None }
as_parts w k ns a b c =
    ap (λ (j : ℕ). record { catalogue = w.catalogue; run = j; notes = w.notes; refused = w.refused }) a
    ∙ ap (λ (ms : List Note). record { catalogue = w.catalogue; run = k; notes = ms; refused = w.refused }) b
    ∙ ap (λ (r : Option Cause). record { catalogue = w.catalogue; run = k; notes = ns; refused = r }) c

stay-at : (boot : Bytes) (pairs : List (QName × QName)) (f : Footprint) (ss : List Step) (k : ℕ) (s : Step) → AllStay boot pairs f ss → slice_get ss k ≡ Some s → Stays boot pairs f s.statement
stay-at boot pairs f [] k s stay e = no_head s e
stay-at boot pairs f (t ∷ ts) zero s stay e = subst (λ (u : Step). Stays boot pairs f u.statement) (head_is t s e) stay.0
stay-at boot pairs f (t ∷ ts) (suc k) s stay e = stay-at boot pairs f ts k s stay.1 e

module _ (laws : ChangePlaces) (boot : Bytes) (worker : ℕ) where
  abbrev behind : Planned → Under_way → Phase
  behind x u = phase_behind worker (length x.steps) u u.refused

  step_none : (x : Planned) (ns : List Note) (k : ℕ) (ys : List Going) (n : Named) → let a = after_steps boot x.id (take k x.steps) (started n) in a.run ≡ k → a.notes ≡ ns → a.refused ≡ None → AsRecorded boot a.catalogue ys
      → let u = under_way (in_list_order boot a.catalogue ys) (record { plan = x; phase = Running worker k; notes = ns }) k in Stepped boot n u (record { plan = x; phase = behind x u; notes = u.notes } ∷ ys)
  step_none x ns k ys n run notes refused recorded =
      let a = after_steps boot x.id (take k x.steps) (started n) in
      let u = under_way (in_list_order boot a.catalogue ys) (record { plan = x; phase = Running worker k; notes = ns }) k in
      let small : k ≤ length x.steps = let h = run-bound boot x.id (take k x.steps) (started n) in let g = take-bound k x.steps in omega arith in
      concluded boot n x (behind x u) u a ys (count-behind worker (length x.steps) u u.refused small) (refusal-behind worker (length x.steps) u u.refused) refl run notes refused refl recorded

  step_some : (x : Planned) (ns : List Note) (k : ℕ) (s : Step) → slice_get x.steps k ≡ Some s → (ys : List Going) (n : Named) (pairs : List (QName × QName)) → (here : InPlace boot pairs x) → InPlaces boot here.with_own (map (λ y. y.plan) ys) → Given pairs n → Apart x.footprint ys
      → let a = after_steps boot x.id (take k x.steps) (started n) in Given here.with_own a.catalogue → a.run ≡ k → a.notes ≡ ns → a.refused ≡ None → AsRecorded boot a.catalogue ys
      → let u = one_more boot x.id (under_way (in_list_order boot a.catalogue ys) (record { plan = x; phase = Running worker k; notes = ns }) k) s in Stepped boot n u (record { plan = x; phase = behind x u; notes = u.notes } ∷ ys)
  step_some x ns k s at ys n pairs here places given apart given_a run notes refused recorded =
      let a = after_steps boot x.id (take k x.steps) (started n) in
      let t = effect boot s.statement in
      let u = one_more boot x.id (under_way (in_list_order boot a.catalogue ys) (record { plan = x; phase = Running worker k; notes = ns }) k) s in
      let v = one_more boot x.id (record { catalogue = a.catalogue; run = k; notes = ns; refused = None }) s in
      let stays : Stays boot here.with_own x.footprint s.statement = stay-at boot here.with_own x.footprint x.steps k s here.stay at in
      let within : IsWithin x.footprint (seen a.catalogue) t = stays.within a.catalogue given_a in
      let later : Later boot t x.footprint a.catalogue ys = past_entries laws boot t x.footprint ys here.with_own places apart a.catalogue given_a within recorded in
      let small : u.run ≤ length x.steps = let h = slice_get_within x.steps k s at in omega arith in
      let one : k + 1 ≡ suc k = omega arith in
      let is : after_steps boot x.id (take (k + 1) x.steps) (started n) ≡ v =
      ap (λ (j : ℕ). after_steps boot x.id (take j x.steps) (started n)) one
      ∙ ap (λ (ss : List Step). after_steps boot x.id ss (started n)) (take-next x.steps k s at)
      ∙ steps-append boot x.id (take k x.steps) (s ∷ []) (started n)
      ∙ ap (λ (w : Under_way). until_refusal boot x.id w w.refused s) (as_parts a k ns run notes refused) in
      concluded boot n x (behind x u) u v ys (count-behind worker (length x.steps) u u.refused small) (refusal-behind worker (length x.steps) u u.refused) is refl
      (ap (λ (r : Result (List Change) Cause). ns ++ noted x.id s.is_owner r) (sym later.says))
      (ap (λ (r : Result (List Change) Cause). ending s.is_owner r) (sym later.says))
      later.moves later.recorded

  step_head : (x : Planned) (ns : List Note) (k : ℕ) (o : Option Step) → slice_get x.steps k ≡ o → (ys : List Going) (n : Named) (pairs : List (QName × QName)) → (here : InPlace boot pairs x) → InPlaces boot here.with_own (map (λ y. y.plan) ys) → Given pairs n → Apart x.footprint ys → AsRecorded boot n (record { plan = x; phase = Running worker k; notes = ns } ∷ ys)
      → let u = ran_next boot (in_list_order boot n (record { plan = x; phase = Running worker k; notes = ns } ∷ ys)) (record { plan = x; phase = Running worker k; notes = ns }) k o in Stepped boot n u (record { plan = x; phase = behind x u; notes = u.notes } ∷ ys)
  step_head x ns k None at ys n pairs here places given apart recorded = step_none x ns k ys n recorded.0 recorded.1 recorded.2 recorded.3
  step_head x ns k (Some s) at ys n pairs here places given apart recorded =
      step_some x ns k s at ys n pairs here places given apart (given-alone boot pairs n (record { plan = x; phase = Running worker k; notes = ns }) here given) recorded.0 recorded.1 recorded.2 recorded.3

  pub step-ordered : (xs : List Going) (i : ℕ) (x : Planned) (ns : List Note) (k : ℕ) (n : Named) (pairs : List (QName × QName)) → InPlaces boot pairs (map (λ y. y.plan) xs) → Given pairs n → Orderly xs → AsRecorded boot n xs → slice_get xs i ≡ Some (record { plan = x; phase = Running worker k; notes = ns })
      → let u = ran_next boot (in_list_order boot n xs) (record { plan = x; phase = Running worker k; notes = ns }) k (slice_get x.steps k) in Stepped boot n u (changed_at (to (behind x u) u.notes) i xs)
  step-ordered [] i x ns k n pairs places given ordered recorded e = no_head (record { plan = x; phase = Running worker k; notes = ns }) e
  step-ordered (y ∷ ys) zero x ns k n pairs places given ordered recorded e =
      let z : Going = record { plan = x; phase = Running worker k; notes = ns } in
      let is : y ≡ z = head_is y z e in
      at y (sym is) places given ordered recorded
    where
      at : (y : Going) → record { plan = x; phase = Running worker k; notes = ns } ≡ y → InPlaces boot pairs (map (λ y. y.plan) (y ∷ ys)) → Given pairs n → Orderly (y ∷ ys) → AsRecorded boot n (y ∷ ys) → let u = ran_next boot (in_list_order boot n (y ∷ ys)) (record { plan = x; phase = Running worker k; notes = ns }) k (slice_get x.steps k) in Stepped boot n u (to (behind x u) u.notes y ∷ ys)
      at y is places given ordered recorded =
          let z : Going = record { plan = x; phase = Running worker k; notes = ns } in
          let P : Going → Type 0 = λ v. InPlaces boot pairs (map (λ y. y.plan) (v ∷ ys)) → Orderly (v ∷ ys) → AsRecorded boot n (v ∷ ys) → let u = ran_next boot (in_list_order boot n (v ∷ ys)) z k (slice_get x.steps k) in Stepped boot n u (to (behind x u) u.notes v ∷ ys) in
          subst P is (λ places ordered recorded. step_head x ns k (slice_get x.steps k) refl ys n pairs places.0 places.1 given (apart-later z ys refl ordered.0) recorded) places ordered recorded
  step-ordered (y ∷ ys) (suc i) x ns k n pairs places given ordered recorded e =
      let here : InPlace boot pairs y.plan = places.0 in
      let more = step-ordered ys i x ns k (alone boot n y).catalogue here.with_own places.1 (given-alone boot pairs n y here given) ordered.1 recorded.3 e in
      record { order = more.order; recorded = (recorded.0, recorded.1, recorded.2, more.recorded) }
