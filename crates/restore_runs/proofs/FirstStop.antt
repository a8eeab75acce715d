-- A restore that is to stop does so at the first error that one which goes on tells.
use Rattle.std.proofs.Common.{◌≡◌, ℕ, ◌+◌, ◌==◌, Bool, true, false, ◌&&◌, ◌||◌, List, [], ◌∷◌, ◌++◌, Option, Some, None, Result, Ok, Err, ◌⊎◌, inl, inr, refl, ap, sym, subst, ◌∙◌, append_assoc, if◌then◌else◌}
use Rattle.std.proofs.lemmas.List.{append-nil}
use Rattle.std.specs.List.{find}
use Rattle.cat_model.specs.declared.cause.Cause.{Cause}
use Rattle.cat_model.specs.Effects.{effect}
use Rattle.cat_model.specs.Trees.{Change, after, after_or_same, changed, outcome, seen}
use Rattle.cat_model.specs.Values.{Bytes, Named}
use Rattle.restore_plan.specs.declared.status.EntryStatus.{EntryStatus}
use Rattle.restore_plan.specs.declared.status.EntryStatus.TheVariants.{Done, Refused, Skipped}
use Rattle.restore_plan.specs.declared.status.Note.{Note}
use Rattle.restore_plan.specs.declared.planned.Planned.{Planned}
use Rattle.restore_plan.specs.declared.step.Step.{Step}
use Rattle.restore_plan.specs.Serial.{Ended, Left, Stopped, Under_way, after_steps, blocks, ending, entry_left, first_blocked, is_blocked, noted, serial, serial_behind, serial_until, started, status_of, steps_until, until_refusal}
use Rattle.restore_runs.specs.FirstErrors.{errors_behind, first_of, refusal}

-- ---- the statements of one entry

-- how an entry under way grows: its notes are kept, and nothing runs behind a refusal
grow_one : (boot : Bytes) (id : ℕ) (w : Under_way) (refused : Option Cause) (s : Step) → (more : List Note) × ((until_refusal boot id w refused s).notes ≡ w.notes ++ more)
grow_one boot id w None s = (noted id s.is_owner (outcome (effect boot s.statement) (seen w.catalogue)), refl)
grow_one boot id w (Some cause) s = ([], sym (append-nil w.notes))

grows : (boot : Bytes) (id : ℕ) (steps : List Step) (w : Under_way) → (more : List Note) × ((after_steps boot id steps w).notes ≡ w.notes ++ more)
grows boot id [] w = ([], sym (append-nil w.notes))
grows boot id (s ∷ steps) w =
    let g = grows boot id steps (until_refusal boot id w w.refused s) in
    let h = grow_one boot id w w.refused s in
    (h.0 ++ g.0, g.1 ∙ ap (λ (ns : List Note). ns ++ g.0) h.1 ∙ append_assoc w.notes h.0 g.0)

stays : (boot : Bytes) (id : ℕ) (steps : List Step) (w : Under_way) (cause : Cause) → w.refused ≡ Some cause → after_steps boot id steps w ≡ w
stays boot id [] w cause is = refl
stays boot id (s ∷ steps) w cause is = ap (λ (r : Option Cause). after_steps boot id steps (until_refusal boot id w r s)) is ∙ stays boot id steps w cause is

-- a way that began at a catalogue, of which so many statements ran without a refusal
abbrev way : Named → ℕ → Under_way
way named run = record { catalogue = named; run = run; notes = []; refused = None }

abbrev own_errors : ℕ → Under_way → List Note
own_errors id w = w.notes ++ refusal id (status_of w w.refused)

-- both go through the statements, or the one stops at the first error of the other
abbrev Same : Stopped → Under_way → Type 0
Same s w = (s.at ≡ None) × (w.catalogue ≡ s.catalogue) × (w.refused ≡ None) × (w.notes ≡ [])

abbrev Stops : ℕ → Stopped → Under_way → Type 0
Stops id s w = (n : Note) × (s.at ≡ Some n) × (first_of (own_errors id w) ≡ Some n)

abbrev Alike : ℕ → Stopped → Under_way → Type 0
Alike id s w = Same s w ⊎ Stops id s w

abbrev until_said : Bytes → ℕ → List Step → Named → Result (List Change) Cause → Stopped
until_said boot id steps named said = elim (after said named) [
  | Ok m ↦ steps_until boot id steps m
  | Err cause ↦ record { catalogue = named; at = Some (record { dump_id = id; cause = cause }) }
]

abbrev way_said : ℕ → Named → ℕ → Bool → Result (List Change) Cause → Under_way
way_said id named run is_owner said = record { catalogue = after_or_same said named; run = run + 1; notes = noted id is_owner said; refused = ending is_owner said }

step_alike : (boot : Bytes) (id : ℕ) (steps : List Step) (named : Named) (run : ℕ) (is_owner : Bool) (said : Result (List Change) Cause) →
    ((m : Named) (r : ℕ) → Alike id (steps_until boot id steps m) (after_steps boot id steps (way m r))) →
    Alike id (until_said boot id steps named said) (after_steps boot id steps (way_said id named run is_owner said))
step_alike boot id steps named run is_owner (Ok changes) later = later (changed changes named) (run + 1)
step_alike boot id steps named run true (Err cause) later =
    let n : Note = record { dump_id = id; cause = cause } in
    let w : Under_way = after_steps boot id steps (way_said id named run true (Err cause)) in
    let g = grows boot id steps (way_said id named run true (Err cause)) in
    inr (n, refl, ap (λ (ns : List Note). first_of (ns ++ refusal id (status_of w w.refused))) g.1)
step_alike boot id steps named run false (Err cause) later =
    let n : Note = record { dump_id = id; cause = cause } in
    inr (n, refl, ap (λ (w : Under_way). first_of (own_errors id w)) (stays boot id steps (way_said id named run false (Err cause)) cause refl))

steps_alike : (boot : Bytes) (id : ℕ) (steps : List Step) (named : Named) (run : ℕ) → Alike id (steps_until boot id steps named) (after_steps boot id steps (way named run))
steps_alike boot id [] named run = inl (refl, refl, refl, refl)
steps_alike boot id (s ∷ steps) named run =
    step_alike boot id steps named run s.is_owner (outcome (effect boot s.statement) (seen named)) (λ m r. steps_alike boot id steps m r)

-- ---- entries that have ended without an error block nobody

abbrev AllDone : Ended → Type 0
AllDone [] = Unit {0}
AllDone (x ∷ xs) = (blocks x.1 ≡ false) × AllDone xs

all_both : (xs ys : Ended) → AllDone xs → AllDone ys → AllDone (xs ++ ys)
all_both [] ys done more = more
all_both (x ∷ xs) ys done more = (done.0, all_both xs ys done.1 more)

and_false : (b : Bool) → (b && false) ≡ false
and_false true = refl
and_false false = refl

none_blocked : (ended : Ended) → AllDone ended → (id : ℕ) → is_blocked ended id ≡ false
none_blocked [] done id = refl
none_blocked (x ∷ xs) done id =
    ap (λ (b : Bool). b || is_blocked xs id) (ap (λ (b : Bool). x.0 == id && b) done.0 ∙ and_false (x.0 == id)) ∙ none_blocked xs done.1 id

none_first : (ended : Ended) → AllDone ended → (ids : List ℕ) → first_blocked ended ids ≡ None
none_first ended done [] = refl
none_first ended done (id ∷ ids) = ap (λ (b : Bool). if b then Some id else first_blocked ended ids) (none_blocked ended done id) ∙ none_first ended done ids

-- ---- the list

first_kept : (xs ys : List Note) (n : Note) → first_of xs ≡ Some n → first_of (xs ++ ys) ≡ Some n
first_kept [] ys n is = cc
first_kept (x ∷ xs) ys n is = is

-- what is told of an entry with this outcome, and of those behind it
abbrev told_with : Bytes → Ended → ℕ → List Planned → Named → List Note → EntryStatus → List Note
told_with boot ended id ps named notes status = (notes ++ refusal id status) ++ errors_behind boot (ended ++ (id, status) ∷ []) named ps

abbrev left_with : Bytes → Ended → ℕ → List Planned → Named → EntryStatus → Named
left_with boot ended id ps named status = (serial_behind boot (ended ++ (id, status) ∷ []) named ps).catalogue

-- the one stops at the first error of the other; without one both leave the same
abbrev Agree : Stopped → List Note → Named → Type 0
Agree s told left = (s.at ≡ first_of told) × (first_of told ≡ None → s.catalogue ≡ left)

abbrev by_stop : Bytes → List Planned → Stopped → Option Note → Stopped
by_stop boot ps s at = elim at [ None ↦ serial_until boot s.catalogue ps | Some note ↦ s ]

entry_agrees : (boot : Bytes) (ended : Ended) (id : ℕ) (ps : List Planned) (s : Stopped) (w : Under_way) → Alike id s w →
    ((named : Named) → Agree (serial_until boot named ps) (errors_behind boot (ended ++ (id, Done) ∷ []) named ps) (serial_behind boot (ended ++ (id, Done) ∷ []) named ps).catalogue) →
    Agree (by_stop boot ps s s.at) (told_with boot ended id ps w.catalogue w.notes (status_of w w.refused)) (left_with boot ended id ps w.catalogue (status_of w w.refused))
entry_agrees boot ended id ps s w (inl same) later =
    let now : by_stop boot ps s s.at ≡ serial_until boot s.catalogue ps = ap (by_stop boot ps s) same.0 in
    let status : status_of w w.refused ≡ Done = ap (status_of w) same.2 in
    let told : told_with boot ended id ps w.catalogue w.notes (status_of w w.refused) ≡ errors_behind boot (ended ++ (id, Done) ∷ []) s.catalogue ps = λ i. told_with boot ended id ps (same.1 i) (same.3 i) (status i) in
    let left : left_with boot ended id ps w.catalogue (status_of w w.refused) ≡ (serial_behind boot (ended ++ (id, Done) ∷ []) s.catalogue ps).catalogue = λ i. left_with boot ended id ps (same.1 i) (status i) in
    let agree = later s.catalogue in
    (ap (λ (x : Stopped). x.at) now ∙ agree.0 ∙ sym (ap first_of told), λ none. ap (λ (x : Stopped). x.catalogue) now ∙ agree.1 (sym (ap first_of told) ∙ none) ∙ sym left)
entry_agrees boot ended id ps s w (inr stops) later =
    let now : by_stop boot ps s s.at ≡ s = ap (by_stop boot ps s) stops.1 in
    let first : first_of (told_with boot ended id ps w.catalogue w.notes (status_of w w.refused)) ≡ Some stops.0 =
    first_kept (own_errors id w) (errors_behind boot (ended ++ (id, status_of w w.refused) ∷ []) w.catalogue ps) stops.0 stops.2 in
    (ap (λ (x : Stopped). x.at) now ∙ stops.1 ∙ sym first, λ none. let never : Some stops.0 ≡ None = sym first ∙ none in cc)

list_agrees : (boot : Bytes) (ended : Ended) (named : Named) (ps : List Planned) → AllDone ended →
    Agree (serial_until boot named ps) (errors_behind boot ended named ps) (serial_behind boot ended named ps).catalogue
list_agrees boot ended named [] done = (refl, λ none. refl)
list_agrees boot ended named (p ∷ ps) done =
    let w : Under_way = after_steps boot p.id p.steps (started named) in
    let P : Option ℕ → Type 0 = λ (o : Option ℕ).
    Agree (serial_until boot named (p ∷ ps)) (told_with boot ended p.id ps (entry_left boot p named o).catalogue (entry_left boot p named o).notes (entry_left boot p named o).status)
    (left_with boot ended p.id ps (entry_left boot p named o).catalogue (entry_left boot p named o).status) in
    subst P (sym (none_first ended done p.deps))
    (entry_agrees boot ended p.id ps (steps_until boot p.id p.steps named) w (steps_alike boot p.id p.steps named 0)
    (λ m. list_agrees boot (ended ++ (p.id, Done) ∷ []) m ps (all_both ended ((p.id, Done) ∷ []) done (refl, tt))))

pub stops_at_first : (boot : Bytes) (named : Named) (ps : List Planned) → Agree (serial_until boot named ps) (errors_behind boot [] named ps) (serial boot named ps).catalogue
stops_at_first boot named ps = list_agrees boot [] named ps tt
