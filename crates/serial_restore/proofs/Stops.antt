-- A restore up to its first refusal, statement by statement and entry by entry.
use Rattle.std.proofs.Common.{◌≡◌, ℕ, ◌+◌, ◌<◌, true, false, true≢false, List, [], ◌∷◌, length, drop, get_or, Option, Some, None, Result, Ok, Err, refl, ap, sym, subst, ◌∙◌, add-one, drop-cons}
use Rattle.cat_model.specs.declared.cause.Cause.{Cause}
use Rattle.cat_model.specs.Values.{Bytes, Named}
use Rattle.cat_model.specs.Effects.{effect}
use Rattle.cat_model.specs.Trees.{run}
use Rattle.restore_plan.specs.declared.status.Note.{Note}
use Rattle.restore_plan.specs.declared.step.Step.{Step}
use Rattle.restore_plan.specs.declared.planned.Planned.{Planned}
use Rattle.restore_plan.specs.Serial.{Stopped, steps_until, serial_until}
use Rattle.serial_restore.specs.Ways.{Stops, stop_of, is_any}

-- ---- statements

abbrev by_run : (Named → Stopped) → ℕ → Named → Result Named Cause → Stopped
by_run more id named r = elim r [
  | Ok after ↦ more after
  | Err cause ↦ record { catalogue = named; at = Some (record { dump_id = id; cause = cause }) }
]

pub one_taken : (boot : Bytes) (id : ℕ) (s : Step) (n m : Named) (stop : List Note) → run (effect boot s.statement) n ≡ Ok m → stop ≡ [] → Stops (steps_until boot id (s ∷ []) n) m stop
one_taken boot id s n m stop e none =
    let is : steps_until boot id (s ∷ []) n ≡ record { catalogue = m; at = None } = ap (by_run (steps_until boot id []) id n) e in
    (ap (λ (x : Stopped). x.catalogue) (sym is), none ∙ ap (λ (x : Stopped). stop_of x.at) (sym is))

pub one_refused : (boot : Bytes) (id : ℕ) (s : Step) (n m : Named) (stop : List Note) (cause : Cause) → run (effect boot s.statement) n ≡ Err cause → m ≡ n → stop ≡ record { dump_id = id; cause = cause } ∷ [] → Stops (steps_until boot id (s ∷ []) n) m stop
one_refused boot id s n m stop cause e same at =
    let is : steps_until boot id (s ∷ []) n ≡ record { catalogue = n; at = Some (record { dump_id = id; cause = cause }) } = ap (by_run (steps_until boot id []) id n) e in
    (same ∙ ap (λ (x : Stopped). x.catalogue) (sym is), at ∙ ap (λ (x : Stopped). stop_of x.at) (sym is))

more_by : (boot : Bytes) (id : ℕ) (ss : List Step) (n m : Named) (stop : List Note) (r : Result Named Cause) → Stops (by_run (steps_until boot id []) id n r) m stop → stop ≡ [] → by_run (steps_until boot id ss) id n r ≡ steps_until boot id ss m
more_by boot id ss n m stop (Ok after) is none = ap (steps_until boot id ss) (sym is.0)
more_by boot id ss n m stop (Err cause) is none = let e : stop ≡ record { dump_id = id; cause = cause } ∷ [] = is.1 in cc

-- a statement that was taken, in a list
pub goes_on : (boot : Bytes) (id : ℕ) (steps : List Step) (i : ℕ) (s : Step) (n m : Named) (stop : List Note) (whole : Stopped)
    → steps_until boot id (drop i steps) n ≡ whole → i < length steps → s ≡ get_or steps i s → Stops (steps_until boot id (s ∷ []) n) m stop → stop ≡ []
    → steps_until boot id (drop (i + 1) steps) m ≡ whole
goes_on boot id steps i s n m stop whole so_far within is said none =
    let here : drop i steps ≡ s ∷ drop (i + 1) steps = rw add-one (drop-cons steps i s within) ∙ ap (λ (x : Step). x ∷ drop (i + 1) steps) (sym is) in
    sym (more_by boot id (drop (i + 1) steps) n m stop (run (effect boot s.statement) n) said none)
    ∙ sym (ap (λ (ss : List Step). steps_until boot id ss n) here) ∙ so_far

stops_by : (boot : Bytes) (id : ℕ) (ss : List Step) (n m : Named) (stop : List Note) (c : Note) (cs : List Note) (r : Result Named Cause) → Stops (by_run (steps_until boot id []) id n r) m stop → stop ≡ c ∷ cs → Stops (by_run (steps_until boot id ss) id n r) m stop
stops_by boot id ss n m stop c cs (Ok after) is some = let e : stop ≡ [] = is.1 in cc
stops_by boot id ss n m stop c cs (Err cause) is some = is

-- one that was refused
pub ends_here : (boot : Bytes) (id : ℕ) (steps : List Step) (i : ℕ) (s : Step) (n m : Named) (stop : List Note) (c : Note) (cs : List Note) (whole : Stopped)
    → steps_until boot id (drop i steps) n ≡ whole → i < length steps → s ≡ get_or steps i s → Stops (steps_until boot id (s ∷ []) n) m stop → stop ≡ c ∷ cs
    → Stops whole m stop
ends_here boot id steps i s n m stop c cs whole so_far within is said some =
    let here : drop i steps ≡ s ∷ drop (i + 1) steps = rw add-one (drop-cons steps i s within) ∙ ap (λ (x : Step). x ∷ drop (i + 1) steps) (sym is) in
    let all : steps_until boot id (s ∷ drop (i + 1) steps) n ≡ whole = sym (ap (λ (ss : List Step). steps_until boot id ss n) here) ∙ so_far in
    let at : Stops (steps_until boot id (s ∷ drop (i + 1) steps) n) m stop = stops_by boot id (drop (i + 1) steps) n m stop c cs (run (effect boot s.statement) n) said some in
    (at.0 ∙ ap (λ (x : Stopped). x.catalogue) all, at.1 ∙ ap (λ (x : Stopped). stop_of x.at) all)

-- ---- entries

abbrev by_stop : (Named → Stopped) → Stopped → Option Note → Stopped
by_stop more s r = elim r [ None ↦ more s.catalogue | Some note ↦ s ]

list_by : (boot : Bytes) (ps : List Planned) (m : Named) (stop : List Note) (s : Stopped) (r : Option Note) → s.at ≡ r → m ≡ s.catalogue → stop ≡ stop_of r → stop ≡ [] → by_stop (λ n. serial_until boot n ps) s r ≡ serial_until boot m ps
list_by boot ps m stop s None e same is none = ap (λ (n : Named). serial_until boot n ps) (sym same)
list_by boot ps m stop s (Some note) e same is none = let f : stop ≡ note ∷ [] = is in cc

pub list_goes_on : (boot : Bytes) (plan : List Planned) (i : ℕ) (p : Planned) (n m : Named) (stop : List Note) (whole : Stopped)
    → serial_until boot n (drop i plan) ≡ whole → i < length plan → p ≡ get_or plan i p → Stops (steps_until boot p.id p.steps n) m stop → stop ≡ []
    → serial_until boot m (drop (i + 1) plan) ≡ whole
list_goes_on boot plan i p n m stop whole so_far within is said none =
    let here : drop i plan ≡ p ∷ drop (i + 1) plan = rw add-one (drop-cons plan i p within) ∙ ap (λ (x : Planned). x ∷ drop (i + 1) plan) (sym is) in
    let s = steps_until boot p.id p.steps n in
    sym (list_by boot (drop (i + 1) plan) m stop s s.at refl said.0 said.1 none)
    ∙ sym (ap (λ (ps : List Planned). serial_until boot n ps) here) ∙ so_far

list_stops_by : (boot : Bytes) (ps : List Planned) (stop : List Note) (c : Note) (cs : List Note) (s : Stopped) (r : Option Note) → stop ≡ stop_of r → stop ≡ c ∷ cs → by_stop (λ n. serial_until boot n ps) s r ≡ s
list_stops_by boot ps stop c cs s None is some = let f : stop ≡ [] = is in cc
list_stops_by boot ps stop c cs s (Some note) is some = refl

pub list_ends_here : (boot : Bytes) (plan : List Planned) (i : ℕ) (p : Planned) (n m : Named) (stop : List Note) (c : Note) (cs : List Note) (whole : Stopped)
    → serial_until boot n (drop i plan) ≡ whole → i < length plan → p ≡ get_or plan i p → Stops (steps_until boot p.id p.steps n) m stop → stop ≡ c ∷ cs
    → Stops whole m stop
list_ends_here boot plan i p n m stop c cs whole so_far within is said some =
    let here : drop i plan ≡ p ∷ drop (i + 1) plan = rw add-one (drop-cons plan i p within) ∙ ap (λ (x : Planned). x ∷ drop (i + 1) plan) (sym is) in
    let s = steps_until boot p.id p.steps n in
    let all : s ≡ whole = sym (list_stops_by boot (drop (i + 1) plan) stop c cs s s.at said.1 some) ∙ sym (ap (λ (ps : List Planned). serial_until boot n ps) here) ∙ so_far in
    (said.0 ∙ ap (λ (x : Stopped). x.catalogue) all, said.1 ∙ ap (λ (x : Stopped). stop_of x.at) all)

-- ---- by what a test says

none_any : {A : Type 0} (xs : List A) → is_any xs ≡ false → xs ≡ []
none_any [] h = refl
none_any (x ∷ xs) h = absurd (true≢false h)

pub goes_on_by : (boot boot' : Bytes) (id : ℕ) (steps : List Step) (i : ℕ) (s : Step) (n m : Named) (stop : List Note) (whole : Stopped)
    → boot' ≡ boot → steps_until boot id (drop i steps) n ≡ whole → i < length steps → s ≡ get_or steps i s → Stops (steps_until boot' id (s ∷ []) n) m stop → is_any stop ≡ false
    → (steps_until boot id (drop (i + 1) steps) m ≡ whole) × (stop ≡ [])
goes_on_by boot boot' id steps i s n m stop whole same so_far within is said none =
    let at : Stops (steps_until boot id (s ∷ []) n) m stop = subst (λ (b : Bytes). Stops (steps_until b id (s ∷ []) n) m stop) same said in
    (goes_on boot id steps i s n m stop whole so_far within is at (none_any stop none), none_any stop none)

pub ends_by : (boot boot' : Bytes) (id : ℕ) (steps : List Step) (i : ℕ) (s : Step) (n m : Named) (stop : List Note) (whole : Stopped)
    → boot' ≡ boot → steps_until boot id (drop i steps) n ≡ whole → i < length steps → s ≡ get_or steps i s → Stops (steps_until boot' id (s ∷ []) n) m stop → is_any stop ≡ true
    → Stops whole m stop
ends_by boot boot' id steps i s n m [] whole same so_far within is said some = absurd (true≢false (sym some))
ends_by boot boot' id steps i s n m (c ∷ cs) whole same so_far within is said some =
    let at : Stops (steps_until boot id (s ∷ []) n) m (c ∷ cs) = subst (λ (b : Bytes). Stops (steps_until b id (s ∷ []) n) m (c ∷ cs)) same said in
    ends_here boot id steps i s n m (c ∷ cs) c cs whole so_far within is at (λ j. c ∷ cs)

pub list_goes_on_by : (boot boot' : Bytes) (plan : List Planned) (i : ℕ) (p : Planned) (steps : List Step) (n m : Named) (stop : List Note) (whole : Stopped)
    → boot' ≡ boot → steps ≡ p.steps → serial_until boot n (drop i plan) ≡ whole → i < length plan → p ≡ get_or plan i p → Stops (steps_until boot' p.id steps n) m stop → is_any stop ≡ false
    → (serial_until boot m (drop (i + 1) plan) ≡ whole) × (stop ≡ [])
list_goes_on_by boot boot' plan i p steps n m stop whole same there so_far within is said none =
    let at : Stops (steps_until boot p.id p.steps n) m stop = subst (λ (x : Stopped). Stops x m stop) (λ j. steps_until (same j) p.id (there j) n) said in
    (list_goes_on boot plan i p n m stop whole so_far within is at (none_any stop none), none_any stop none)

pub list_ends_by : (boot boot' : Bytes) (plan : List Planned) (i : ℕ) (p : Planned) (steps : List Step) (n m : Named) (stop : List Note) (whole : Stopped)
    → boot' ≡ boot → steps ≡ p.steps → serial_until boot n (drop i plan) ≡ whole → i < length plan → p ≡ get_or plan i p → Stops (steps_until boot' p.id steps n) m stop → is_any stop ≡ true
    → Stops whole m stop
list_ends_by boot boot' plan i p steps n m [] whole same there so_far within is said some = absurd (true≢false (sym some))
list_ends_by boot boot' plan i p steps n m (c ∷ cs) whole same there so_far within is said some =
    let at : Stops (steps_until boot p.id p.steps n) m (c ∷ cs) = subst (λ (x : Stopped). Stops x m (c ∷ cs)) (λ j. steps_until (same j) p.id (there j) n) said in
    list_ends_here boot plan i p n m (c ∷ cs) c cs whole so_far within is at (λ j. c ∷ cs)
