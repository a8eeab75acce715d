-- An entry under way: one statement more, and nothing behind a refusal.
use Rattle.std.proofs.Common.{◌≡◌, ℕ, ◌+◌, ◌<◌, Bool, true, true≢false, List, [], ◌∷◌, ◌++◌, length, drop, get_or, Option, Some, None, Result, Ok, Err, refl, ap, sym, ◌∙◌, add-one, drop-cons}
use Rattle.cat_model.specs.declared.cause.Cause.{Cause}
use Rattle.cat_model.specs.Values.{Bytes, Named}
use Rattle.cat_model.specs.Effects.{effect}
use Rattle.cat_model.specs.Trees.{Change, seen, outcome, after, after_or_same, next}
use Rattle.restore_plan.specs.declared.status.Note.{Note}
use Rattle.restore_plan.specs.declared.step.Step.{Step}
use Rattle.restore_plan.specs.Serial.{Under_way, noted, ending, one_more, until_refusal, after_steps}
use Rattle.serial_restore.specs.Ways.{way, listed, is_any, IsAt}

-- ---- what a statement said

pub taken_next : (r : Result (List Change) Cause) (n m : Named) → after r n ≡ Ok m → m ≡ after_or_same r n
taken_next (Ok cs) n m e = cc
taken_next (Err cause) n m e = cc

pub taken_noted : (id : ℕ) (is_owner : Bool) (r : Result (List Change) Cause) (n m : Named) → after r n ≡ Ok m → noted id is_owner r ≡ []
taken_noted id is_owner (Ok cs) n m e = refl
taken_noted id is_owner (Err cause) n m e = cc

pub taken_ending : (is_owner : Bool) (r : Result (List Change) Cause) (n m : Named) → after r n ≡ Ok m → listed (ending is_owner r) ≡ []
taken_ending is_owner (Ok cs) n m e = refl
taken_ending is_owner (Err cause) n m e = cc

pub refused_is : (r : Result (List Change) Cause) (n : Named) (cause : Cause) → after r n ≡ Err cause → r ≡ Err cause
refused_is (Ok cs) n cause e = cc
refused_is (Err because) n cause e = cc

-- ---- statements one after another

-- nothing runs behind a refusal
stays : (boot : Bytes) (id : ℕ) (ss : List Step) (w : Under_way) (cause : Cause) → w.refused ≡ Some cause → after_steps boot id ss w ≡ w
stays boot id [] w cause e = refl
stays boot id (s ∷ ss) w cause e =
    ap (λ (r : Option Cause). after_steps boot id ss (until_refusal boot id w r s)) e ∙ stays boot id ss w cause e

ends_by : (boot : Bytes) (id : ℕ) (ss : List Step) (w : Under_way) (r : Option Cause) (c : Cause) (cs : List Cause) → w.refused ≡ r → listed r ≡ c ∷ cs → after_steps boot id ss w ≡ w
ends_by boot id ss w None c cs e h = cc
ends_by boot id ss w (Some cause) c cs e h = stays boot id ss w cause e

pub ends_here : (boot : Bytes) (id : ℕ) (ss : List Step) (w : Under_way) (c : Cause) (cs : List Cause) → listed w.refused ≡ c ∷ cs → after_steps boot id ss w ≡ w
ends_here boot id ss w c cs h = ends_by boot id ss w w.refused c cs refl h

-- the next statement has run
pub next_ran : (boot : Bytes) (id : ℕ) (steps : List Step) (i : ℕ) (s : Step) (n : Named) (notes : List Note) (whole : Under_way)
    → after_steps boot id (drop i steps) (way n i notes) ≡ whole → i < length steps → s ≡ get_or steps i s
    → after_steps boot id (drop (i + 1) steps) (one_more boot id (way n i notes) s) ≡ whole
next_ran boot id steps i s n notes whole so_far within is =
    let here : drop i steps ≡ s ∷ drop (i + 1) steps = rw add-one (drop-cons steps i s within) ∙ ap (λ (x : Step). x ∷ drop (i + 1) steps) (sym is) in
    sym (ap (λ (ss : List Step). after_steps boot id ss (way n i notes)) here) ∙ so_far

any_ends : (boot : Bytes) (id : ℕ) (ss : List Step) (w : Under_way) (cs : List Cause) → cs ≡ listed w.refused → is_any cs ≡ true → after_steps boot id ss w ≡ w
any_ends boot id ss w [] e h = absurd (true≢false (sym h))
any_ends boot id ss w (c ∷ cs) e h = ends_here boot id ss w c cs (sym e)

-- a statement that was refused ends its entry
pub stops_at : (boot boot' : Bytes) (id : ℕ) (steps : List Step) (i : ℕ) (s : Step) (n n' : Named) (notes notes' : List Note) (refused refused' : List Cause) (run : ℕ) (whole : Under_way)
    → after_steps boot id (drop i steps) (way n i notes) ≡ whole → i < length steps → s ≡ get_or steps i s → boot' ≡ boot → refused ≡ [] → run ≡ i
    → n' ≡ next (effect boot' s.statement) n
    → notes' ≡ notes ++ noted id s.is_owner (outcome (effect boot' s.statement) (seen n))
    → refused' ≡ refused ++ listed (ending s.is_owner (outcome (effect boot' s.statement) (seen n)))
    → is_any refused' ≡ true → IsAt whole n' (run + 1) notes' refused'
stops_at boot boot' id steps i s n n' notes notes' refused refused' run whole so_far within is same none number applied told ended any =
    let w : Under_way = one_more boot id (way n i notes) s in
    let cause : refused' ≡ listed w.refused = ended ∙ (λ j. none j ++ listed (ending s.is_owner (outcome (effect (same j) s.statement) (seen n)))) in
    let all : w ≡ whole = sym (any_ends boot id (drop (i + 1) steps) w refused' cause any) ∙ next_ran boot id steps i s n notes whole so_far within is in (
      applied ∙ (λ j. next (effect (same j) s.statement) n) ∙ ap (λ (x : Under_way). x.catalogue) all,
      ap (λ (k : ℕ). k + 1) number ∙ ap (λ (x : Under_way). x.run) all,
      told ∙ (λ j. notes ++ noted id s.is_owner (outcome (effect (same j) s.statement) (seen n))) ∙ ap (λ (x : Under_way). x.notes) all,
      cause ∙ ap (λ (x : Under_way). listed x.refused) all,
    )
