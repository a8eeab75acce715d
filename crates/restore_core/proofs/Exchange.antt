-- One statement moves past the entries behind its own, where its footprint conflicts with none that has begun.
use Rattle.std.proofs.Common.{◌≡◌, ℕ, zero, suc, ◌+◌, Bool, true, false, List, [], ◌∷◌, ◌++◌, map, length, take, Option, Some, None, Result, Ok, Err, refl, ap, sym, subst, ◌∙◌}
use Rattle.cat_model.specs.declared.footprint.Footprint.{Footprint}
use Rattle.cat_model.specs.declared.cause.Cause.{Cause}
use Rattle.cat_model.specs.declared.object.QName.{QName}
use Rattle.cat_model.specs.Values.{Bytes, Named}
use Rattle.cat_model.specs.Effects.{effect}
use Rattle.cat_model.specs.Marks.{IsWithin, conflict}
use Rattle.cat_model.specs.Trees.{Change, Tree, seen, outcome, next}
use Rattle.restore_plan.specs.declared.status.EntryStatus.{EntryStatus}
use Rattle.restore_plan.specs.declared.status.EntryStatus.TheVariants.{Done, Refused, Skipped}
use Rattle.restore_plan.specs.declared.status.Note.{Note}
use Rattle.restore_plan.specs.declared.step.Step.{Step}
use Rattle.restore_plan.specs.declared.planned.Planned.{Planned}
use Rattle.restore_plan.specs.Places.{Given, Stays, AllStay, InPlace, InPlaces}
use Rattle.restore_plan.specs.Serial.{Under_way, started, noted, ending, one_more, until_refusal, after_steps}
use Rattle.restore_core.specs.declared.phase.Phase.{Phase}
use Rattle.restore_core.specs.declared.phase.Phase.TheVariants.{Waiting, Running, Ended}
use Rattle.restore_core.specs.Phases.{is_waiting}
use Rattle.restore_core.specs.Machine.{Going}
use Rattle.restore_core.specs.InOrder.{count_run, refusal_in, alone, in_list_order, AsRecorded}

-- trees within footprints that don't conflict change places
pub record ChangePlaces : Type 0 where
  pub says : (f g : Footprint) (s t : Tree) (named : Named) → IsWithin f (seen named) s → IsWithin g (seen named) t → conflict f g ≡ false → outcome t (seen (next s named)) ≡ outcome t (seen named)
  pub within : (f g : Footprint) (s t : Tree) (named : Named) → IsWithin f (seen named) s → IsWithin g (seen named) t → conflict f g ≡ false → IsWithin g (seen (next s named)) t
  pub leaves : (f g : Footprint) (s t : Tree) (named : Named) → IsWithin f (seen named) s → IsWithin g (seen named) t → conflict f g ≡ false → next t (next s named) ≡ next s (next t named)
  pub symmetric : (f g : Footprint) → conflict f g ≡ false → conflict g f ≡ false

-- an entry under way, with one more statement taken below it
abbrev pub moved : Tree → Under_way → Under_way
moved t w = record { catalogue = next t w.catalogue; run = w.run; notes = w.notes; refused = w.refused }

-- what a tree of another entry finds behind some steps is what it finds before them
pub record Past (t : Tree) (f : Footprint) (pairs : List (QName × QName)) (low moved_low high : Under_way) (moved_high : Under_way) : Type 0 where
  pub moves : moved_high ≡ moved t high
  pub within : IsWithin f (seen high.catalogue) t
  pub says : outcome t (seen high.catalogue) ≡ outcome t (seen low.catalogue)
  pub given : Given pairs high.catalogue

abbrev made : Under_way → ℕ → Bool → Named → Result (List Change) Cause → Under_way
made w id is_owner named said = record { catalogue = named; run = w.run + 1; notes = w.notes ++ noted id is_owner said; refused = ending is_owner said }

module _ (laws : ChangePlaces) (boot : Bytes) (id : ℕ) (t : Tree) (f g : Footprint) (pairs : List (QName × QName)) (apart : conflict f g ≡ false) where
  past_one : (s : Step) → Stays boot pairs g s.statement → (w : Under_way) → Given pairs w.catalogue → IsWithin f (seen w.catalogue) t → (r : Option Cause) → Past t f pairs w (moved t w) (until_refusal boot id w r s) (until_refusal boot id (moved t w) r s)
  past_one s stays w given within (Some cause) = record { moves = refl; within = within; says = refl; given = given }
  past_one s stays w given within None =
      let u = effect boot s.statement in
      let inside : IsWithin g (seen w.catalogue) u = stays.within w.catalogue given in
      let back : conflict g f ≡ false = laws.symmetric f g apart in
      record {
        moves = ap (λ (m : Named). made w id s.is_owner m (outcome u (seen (next t w.catalogue)))) (laws.leaves f g t u w.catalogue within inside apart)
            ∙ ap (λ (r : Result (List Change) Cause). made w id s.is_owner (next t (next u w.catalogue)) r) (laws.says f g t u w.catalogue within inside apart);
        within = laws.within g f u t w.catalogue inside within back;
        says = laws.says g f u t w.catalogue inside within back;
        given = stays.given w.catalogue given;
      }

  pub past_steps : (ss : List Step) → AllStay boot pairs g ss → (w : Under_way) → Given pairs w.catalogue → IsWithin f (seen w.catalogue) t → Past t f pairs w (moved t w) (after_steps boot id ss w) (after_steps boot id ss (moved t w))
  past_steps [] stay w given within = record { moves = refl; within = within; says = refl; given = given }
  past_steps (s ∷ ss) stay w given within =
      let one = past_one s stay.0 w given within w.refused in
      let more = past_steps ss stay.1 (until_refusal boot id w w.refused s) one.given one.within in
      record {
        moves = ap (after_steps boot id ss) one.moves ∙ more.moves;
        within = more.within;
        says = more.says ∙ one.says;
        given = more.given;
      }

-- ---- steps of an entry

pub stay-take : (boot : Bytes) (pairs : List (QName × QName)) (f : Footprint) (k : ℕ) (ss : List Step) → AllStay boot pairs f ss → AllStay boot pairs f (take k ss)
stay-take boot pairs f zero [] stay = tt
stay-take boot pairs f zero (s ∷ ss) stay = tt
stay-take boot pairs f (suc k) [] stay = tt
stay-take boot pairs f (suc k) (s ∷ ss) stay = (stay.0, stay-take boot pairs f k ss stay.1)

given-one : (boot : Bytes) (pairs : List (QName × QName)) (f : Footprint) (id : ℕ) (s : Step) → Stays boot pairs f s.statement → (w : Under_way) → Given pairs w.catalogue → (r : Option Cause) → Given pairs (until_refusal boot id w r s).catalogue
given-one boot pairs f id s stays w given None = stays.given w.catalogue given
given-one boot pairs f id s stays w given (Some cause) = given

-- the foreign keys stay given
pub given-steps : (boot : Bytes) (pairs : List (QName × QName)) (f : Footprint) (id : ℕ) (ss : List Step) → AllStay boot pairs f ss → (w : Under_way) → Given pairs w.catalogue → Given pairs (after_steps boot id ss w).catalogue
given-steps boot pairs f id [] stay w given = given
given-steps boot pairs f id (s ∷ ss) stay w given = given-steps boot pairs f id ss stay.1 (until_refusal boot id w w.refused s) (given-one boot pairs f id s stay.0 w given w.refused)

pub given-alone : (boot : Bytes) (pairs : List (QName × QName)) (n : Named) (x : Going) → (here : InPlace boot pairs x.plan) → Given pairs n → Given here.with_own (alone boot n x).catalogue
given-alone boot pairs n x here given =
    given-steps boot here.with_own x.plan.footprint x.plan.id (take (count_run (length x.plan.steps) x.phase) x.plan.steps)
    (stay-take boot here.with_own x.plan.footprint (count_run (length x.plan.steps) x.phase) x.plan.steps here.stay) (started n) (here.wider n given)

-- ---- past all entries behind

-- those that have begun don't conflict with the footprint
abbrev pub Apart : Footprint → List Going → Type 0
Apart f [] = Unit {0}
Apart f (x ∷ xs) = (is_waiting x.phase ≡ false → conflict f x.plan.footprint ≡ false) × Apart f xs

-- past one entry
past_entry : (laws : ChangePlaces) (boot : Bytes) (t : Tree) (f : Footprint) (pairs : List (QName × QName)) (x : Going) (phase : Phase) (here : InPlace boot pairs x.plan) → (is_waiting phase ≡ false → conflict f x.plan.footprint ≡ false) → (n : Named) → Given pairs n → IsWithin f (seen n) t → (k : ℕ) → k ≡ count_run (length x.plan.steps) phase → Past t f here.with_own (started n) (moved t (started n)) (after_steps boot x.plan.id (take k x.plan.steps) (started n)) (after_steps boot x.plan.id (take k x.plan.steps) (started (next t n)))
past_entry laws boot t f pairs x Waiting here apart n given within k e =
    subst (λ (j : ℕ). Past t f here.with_own (started n) (moved t (started n)) (after_steps boot x.plan.id (take j x.plan.steps) (started n)) (after_steps boot x.plan.id (take j x.plan.steps) (started (next t n)))) (sym e)
    (nothing x.plan.steps)
  where
    nothing : (ss : List Step) → Past t f here.with_own (started n) (moved t (started n)) (after_steps boot x.plan.id (take 0 ss) (started n)) (after_steps boot x.plan.id (take 0 ss) (started (next t n)))
    nothing [] = record { moves = refl; within = within; says = refl; given = here.wider n given }
    nothing (s ∷ ss) = record { moves = refl; within = within; says = refl; given = here.wider n given }
past_entry laws boot t f pairs x (Running worker run) here apart n given within k e =
    past_steps laws boot x.plan.id t f x.plan.footprint here.with_own (apart refl) (take k x.plan.steps) (stay-take boot here.with_own x.plan.footprint k x.plan.steps here.stay) (started n) (here.wider n given) within
past_entry laws boot t f pairs x (Ended status) here apart n given within k e =
    past_steps laws boot x.plan.id t f x.plan.footprint here.with_own (apart refl) (take k x.plan.steps) (stay-take boot here.with_own x.plan.footprint k x.plan.steps here.stay) (started n) (here.wider n given) within

pub record Later (boot : Bytes) (t : Tree) (f : Footprint) (n : Named) (xs : List Going) : Type 0 where
  pub moves : in_list_order boot (next t n) xs ≡ next t (in_list_order boot n xs)
  pub within : IsWithin f (seen (in_list_order boot n xs)) t
  pub says : outcome t (seen (in_list_order boot n xs)) ≡ outcome t (seen n)
  pub recorded : AsRecorded boot (next t n) xs

pub past_entries : (laws : ChangePlaces) (boot : Bytes) (t : Tree) (f : Footprint) (xs : List Going) (pairs : List (QName × QName)) → InPlaces boot pairs (map (λ x. x.plan) xs) → Apart f xs → (n : Named) → Given pairs n → IsWithin f (seen n) t → AsRecorded boot n xs → Later boot t f n xs
past_entries laws boot t f [] pairs places apart n given within recorded = record { moves = refl; within = within; says = refl; recorded = tt }
past_entries laws boot t f (x ∷ xs) pairs places apart n given within recorded =
    let here : InPlace boot pairs x.plan = places.0 in
    let one = past_entry laws boot t f pairs x x.phase here apart.0 n given within (count_run (length x.plan.steps) x.phase) refl in
    let more = past_entries laws boot t f xs here.with_own places.1 apart.1 (alone boot n x).catalogue one.given one.within recorded.3 in
    let same : (alone boot (next t n) x).catalogue ≡ next t (alone boot n x).catalogue = ap (λ (w : Under_way). w.catalogue) one.moves in
    record {
      moves = ap (λ (m : Named). in_list_order boot m xs) same ∙ more.moves;
      within = more.within;
      says = more.says ∙ one.says;
      recorded = (
        ap (λ (w : Under_way). w.run) one.moves ∙ recorded.0,
        ap (λ (w : Under_way). w.notes) one.moves ∙ recorded.1,
        ap (λ (w : Under_way). w.refused) one.moves ∙ recorded.2,
        subst (λ (m : Named). AsRecorded boot m xs) (sym same) more.recorded,
      );
    }
