-- What each event keeps: a state's shape, by which entries stand rightly to one another, and that the catalogue is what
-- the entries have run in the order of the list.
use Rattle.std.proofs.Common.{◌≡◌, ℕ, zero, suc, Bool, true, false, not, ◌&&◌, ◌||◌, ◌==◌, cond, nat_lt, List, [], ◌∷◌, ◌++◌, map, length, take, Option, Some, None, is_none, refl, ap, sym, subst, ◌∙◌, inl, inr}
use Rattle.std.specs.Prelude.{◌⊎◌}
use Rattle.std.specs.List.{list_any, list_all, find, slice_get, position_or_len}
use Rattle.std.proofs.lemmas.List.Folds.{find_at}
use Rattle.cat_model.specs.declared.object.QName.{QName}
use Rattle.cat_model.specs.Values.{Bytes, Named}
use Rattle.restore_plan.specs.declared.status.EntryStatus.{EntryStatus}
use Rattle.restore_plan.specs.declared.status.EntryStatus.TheVariants.{Done, Refused, Skipped}
use Rattle.restore_plan.specs.declared.status.Note.{Note}
use Rattle.restore_plan.specs.declared.planned.Planned.{Planned}
use Rattle.restore_plan.specs.Order.{before, clash}
use Rattle.restore_plan.specs.declared.step.Step.{Step as Statement}
use Rattle.cat_model.specs.declared.cause.Cause.{Cause}
use Rattle.restore_plan.specs.Places.{Given, InPlace, InPlaces}
use Rattle.restore_plan.specs.Serial.{Under_way, first_blocked, after_steps, started}
use Rattle.restore_core.specs.declared.event.Event.{Event}
use Rattle.restore_core.specs.declared.event.Event.TheVariants.{Start, Skip, Step}
use Rattle.restore_core.specs.declared.phase.Phase.{Phase}
use Rattle.restore_core.specs.declared.phase.Phase.TheVariants.{Waiting, Running, Ended}
use Rattle.restore_core.specs.Phases.{is_waiting, is_running, is_run_by, has_ended}
use Rattle.restore_core.specs.Machine.{Going, State, first, ended_of, all_before_ended, is_ready, blocked_by, is_free, locks_are_free, may_start, may_skip, enabled, changed_at, in_phase, skipped, ran_next, phase_behind, stepped_as, step_of, step_at, place_of, happens, IsLegal, after}
use Rattle.restore_core.specs.InOrder.{count_run, refusal_in, alone, in_list_order, AsRecorded}
use Rattle.restore_core.proofs.Booleans.{and_first, and_second, not_true, both_ways}
use Rattle.restore_core.proofs.Pairs.{to, head_is, no_head, changed-same, plans-same, OrdersLater, Orderly, LocksLater, LocksApart, AllFree, all-free, Runs, earlier-ended, orderly-to, locks-apart-to}
use Rattle.restore_core.proofs.Blocking.{BlocksAt, Blocks, blocks-at, blocks-to}
use Rattle.restore_core.proofs.Exchange.{ChangePlaces, given-alone}
use Rattle.restore_core.proofs.Ordered.{Stepped, step-ordered}

-- ---- shape

pub record Shape (ps : List Planned) (xs : List Going) : Type 0 where
  pub plans : map (λ x. x.plan) xs ≡ ps
  pub orderly : Orderly xs
  pub locks : LocksApart xs
  pub blocks : Blocks [] xs

-- one entry goes on, without a change of the catalogue
pub record Quiet (s t : State) (x : Going) (p : Phase) (ns : List Note) : Type 0 where
  pub catalogue : t.catalogue ≡ s.catalogue
  pub count : count_run (length x.plan.steps) p ≡ count_run (length x.plan.steps) x.phase
  pub refusal : refusal_in p ≡ refusal_in x.phase
  pub notes : ns ≡ x.notes

-- or by its next statement
pub record Runs_next (boot : Bytes) (s t : State) (x : Going) (p : Phase) (ns : List Note) : Type 0 where
  pub worker : ℕ
  pub run : ℕ
  pub runs : x.phase ≡ Running worker run
  pub catalogue : t.catalogue ≡ (ran_next boot s.catalogue x run (slice_get x.plan.steps run)).catalogue
  pub phase : p ≡ phase_behind worker (length x.plan.steps) (ran_next boot s.catalogue x run (slice_get x.plan.steps run)) (ran_next boot s.catalogue x run (slice_get x.plan.steps run)).refused
  pub notes : ns ≡ (ran_next boot s.catalogue x run (slice_get x.plan.steps run)).notes

-- what an event does: one entry that hasn't ended goes into another phase
pub record Move (boot : Bytes) (s t : State) : Type 0 where
  pub place : ℕ
  pub entry : Going
  pub phase : Phase
  pub notes : List Note
  pub at : slice_get s.entries place ≡ Some entry
  pub going : has_ended entry.phase ≡ false
  pub entries : t.entries ≡ changed_at (to phase notes) place s.entries
  pub earlier : all_before_ended (take place s.entries) entry.plan ≡ true
  pub locks : Runs phase entry s.entries
  pub blocks : BlocksAt (first_blocked (ended_of (take place s.entries)) entry.plan.deps) phase
  pub turn : Quiet s t entry phase notes ⊎ Runs_next boot s t entry phase notes

-- ---- what each event does

waiting-goes : (p : Phase) → is_waiting p ≡ true → has_ended p ≡ false
waiting-goes Waiting h = refl
waiting-goes (Running worker run) h = refl
waiting-goes (Ended status) h = absurd (both_ways false h refl)

none-run : (p : Phase) (many : ℕ) → is_waiting p ≡ true → 0 ≡ count_run many p
none-run Waiting many h = refl
none-run (Running worker run) many h = absurd (both_ways false h refl)
none-run (Ended status) many h = absurd (both_ways false h refl)

none-refused : (p : Phase) → is_waiting p ≡ true → None ≡ refusal_in p
none-refused Waiting h = refl
none-refused (Running worker run) h = refl
none-refused (Ended status) h = absurd (both_ways false h refl)

none-is : (b : Option ℕ) → is_none b ≡ true → b ≡ None
none-is None h = refl
none-is (Some by) h = absurd (both_ways false h refl)

some-is : (b : Option ℕ) → not (is_none b) ≡ true → (by : ℕ) × (b ≡ Some by)
some-is None h = absurd (both_ways false h refl)
some-is (Some by) h = (by, refl)

start-moves : (boot : Bytes) (s : State) (worker i : ℕ) (o : Option Going) → slice_get s.entries i ≡ o → may_start s.entries (take i s.entries) o ≡ true → Move boot s (happens boot s (Start worker i))
start-moves boot s worker i None e h = absurd (both_ways false h refl)
start-moves boot s worker i (Some x) e h =
    let xs = s.entries in
    let free = is_none (blocked_by (take i xs) x) && locks_are_free xs x.plan in
    let ready : is_ready (take i xs) x ≡ true = and_first (is_ready (take i xs) x) free h in
    let later : free ≡ true = and_second (is_ready (take i xs) x) free h in
    let waits : is_waiting x.phase ≡ true = and_first (is_waiting x.phase) (all_before_ended (take i xs) x.plan) ready in
    record {
      place = i;
      entry = x;
      phase = Running worker 0;
      notes = x.notes;
      at = e;
      going = waiting-goes x.phase waits;
      entries = changed-same (in_phase (Running worker 0)) (to (Running worker 0) x.notes) xs i x e refl;
      earlier = and_second (is_waiting x.phase) (all_before_ended (take i xs) x.plan) ready;
      locks = λ runs. inr (all-free x.plan xs (not_true (list_any (λ y. is_running y.phase && clash x.plan y.plan) xs) (and_second (is_none (blocked_by (take i xs) x)) (locks_are_free xs x.plan) later)));
      blocks = none-is (blocked_by (take i xs) x) (and_first (is_none (blocked_by (take i xs) x)) (locks_are_free xs x.plan) later);
      turn = inl (record { catalogue = refl; count = none-run x.phase (length x.plan.steps) waits; refusal = none-refused x.phase waits; notes = refl });
    }

skip-moves : (boot : Bytes) (s : State) (i : ℕ) (o : Option Going) → slice_get s.entries i ≡ o → may_skip (take i s.entries) o ≡ true → Move boot s (happens boot s (Skip i))
skip-moves boot s i None e h = absurd (both_ways false h refl)
skip-moves boot s i (Some x) e h =
    let xs = s.entries in
    let ready : is_ready (take i xs) x ≡ true = and_first (is_ready (take i xs) x) (not (is_none (blocked_by (take i xs) x))) h in
    let found : (by : ℕ) × (blocked_by (take i xs) x ≡ Some by) = some-is (blocked_by (take i xs) x) (and_second (is_ready (take i xs) x) (not (is_none (blocked_by (take i xs) x))) h) in
    let waits : is_waiting x.phase ≡ true = and_first (is_waiting x.phase) (all_before_ended (take i xs) x.plan) ready in
    record {
      place = i;
      entry = x;
      phase = Ended (Skipped found.0);
      notes = x.notes;
      at = e;
      going = waiting-goes x.phase waits;
      entries = changed-same (λ y. skipped (blocked_by (take i xs) y) y) (to (Ended (Skipped found.0)) x.notes) xs i x e (ap (λ (b : Option ℕ). skipped b x) found.1);
      earlier = and_second (is_waiting x.phase) (all_before_ended (take i xs) x.plan) ready;
      locks = λ runs. absurd (both_ways false runs refl);
      blocks = found.1;
      turn = inl (record { catalogue = refl; count = none-run x.phase (length x.plan.steps) waits; refusal = none-refused x.phase waits; notes = refl });
    }

pub record Found (test : Going → Bool) (xs : List Going) : Type 0 where
  pub entry : Going
  pub at : slice_get xs (position_or_len test xs) ≡ Some entry
  pub is : test entry ≡ true

pub found : (test : Going → Bool) (xs : List Going) → list_any test xs ≡ true → Found test xs
found test xs h =
    let f = by_find xs h in
    record { entry = f.0; at = sym (find_at test xs) ∙ f.1; is = f.2 }
  where
    at : (y : Going) (ys : List Going) (b : Bool) → test y ≡ b → b || list_any test ys ≡ true → (list_any test ys ≡ true → (x : Going) × (find test ys ≡ Some x) × (test x ≡ true)) → (x : Going) × (cond b (Some y) (find test ys) ≡ Some x) × (test x ≡ true)
    at y ys true e g later = (y, refl, e)
    at y ys false e g later = later g

    by_find : (ys : List Going) → list_any test ys ≡ true → (x : Going) × (find test ys ≡ Some x) × (test x ≡ true)
    by_find [] g = absurd (both_ways false g refl)
    by_find (y ∷ ys) g = at y ys (test y) refl g (by_find ys)

pub runs-as : (worker : ℕ) (p : Phase) → is_run_by worker p ≡ true → (v : ℕ) × (run : ℕ) × (p ≡ Running v run)
runs-as worker Waiting h = absurd (both_ways false h refl)
runs-as worker (Running v run) h = (v, run, refl)
runs-as worker (Ended status) h = absurd (both_ways false h refl)

step-phase : (boot : Bytes) (s : State) (i v run : ℕ) (x : Going) (p : Phase) → p ≡ Running v run → step_of boot s i x p ≡ record { catalogue = (ran_next boot s.catalogue x run (slice_get x.plan.steps run)).catalogue; entries = changed_at (stepped_as (ran_next boot s.catalogue x run (slice_get x.plan.steps run)) v) i s.entries }
step-phase boot s i v run x p e = ap (step_of boot s i x) e

not_waiting : (p : Phase) (v run : ℕ) → p ≡ Running v run → is_waiting p ≡ false
not_waiting p v run e = ap is_waiting e

step-moves : (boot : Bytes) (s : State) (worker : ℕ) → Orderly s.entries → Blocks [] s.entries → list_any (λ x. is_run_by worker x.phase) s.entries ≡ true → Move boot s (happens boot s (Step worker))
step-moves boot s worker ordered blocks h =
    let xs = s.entries in
    let f : Found (λ x. is_run_by worker x.phase) xs = found (λ x. is_run_by worker x.phase) xs h in
    let x = f.entry in
    let i = place_of worker xs in
    let r : (v : ℕ) × (run : ℕ) × (x.phase ≡ Running v run) = runs-as worker x.phase f.is in
    let u = ran_next boot s.catalogue x r.1 (slice_get x.plan.steps r.1) in
    let is : happens boot s (Step worker) ≡ record { catalogue = u.catalogue; entries = changed_at (stepped_as u r.0) i xs } =
    ap (step_at boot s i) f.at ∙ step-phase boot s i r.0 r.1 x x.phase r.2 in
    let p = phase_behind r.0 (length x.plan.steps) u u.refused in
    let was : first_blocked (ended_of (take i xs)) x.plan.deps ≡ None = subst (BlocksAt (first_blocked (ended_of (take i xs)) x.plan.deps)) r.2 (blocks-at xs i x [] f.at blocks) in
    record {
      place = i;
      entry = x;
      phase = p;
      notes = u.notes;
      at = f.at;
      going = ap has_ended r.2;
      entries = ap (λ (t : State). t.entries) is ∙ changed-same (stepped_as u r.0) (to p u.notes) xs i x f.at refl;
      earlier = earlier-ended xs i x ordered f.at (not_waiting x.phase r.0 r.1 r.2);
      locks = λ runs. inl (ap is_running r.2);
      blocks = behind r.0 (length x.plan.steps) u (first_blocked (ended_of (take i xs)) x.plan.deps) was u.refused;
      turn = inr (record { worker = r.0; run = r.1; runs = r.2; catalogue = ap (λ (t : State). t.catalogue) is; phase = refl; notes = refl });
    }
  where
    behind : (v many : ℕ) (u : Under_way) (b : Option ℕ) → b ≡ None → (r : Option Cause) → BlocksAt b (phase_behind v many u r)
    behind v many u b e (Some cause) = e
    behind v many u b e None = at (nat_lt u.run many)
      where
        at : (t : Bool) → BlocksAt b (cond t (Running v u.run) (Ended Done))
        at true = e
        at false = e

pub moves : (boot : Bytes) (s : State) (e : Event) → Orderly s.entries → Blocks [] s.entries → enabled s e ≡ true → Move boot s (happens boot s e)
moves boot s (Start worker i) ordered blocks h =
    let m = may_start s.entries (take i s.entries) (slice_get s.entries i) in
    start-moves boot s worker i (slice_get s.entries i) refl (and_second (is_free worker s.entries) m (and_second (nat_lt worker 64) (is_free worker s.entries && m) h))
moves boot s (Skip i) ordered blocks h = skip-moves boot s i (slice_get s.entries i) refl h
moves boot s (Step worker) ordered blocks h = step-moves boot s worker ordered blocks h

-- ---- what is kept

pub shape-kept : (boot : Bytes) (ps : List Planned) (s t : State) → Move boot s t → Shape ps s.entries → Shape ps t.entries
shape-kept boot ps s t m shape =
    let p = m.phase in let ns = m.notes in let xs = s.entries in
    subst (Shape ps) (sym m.entries) (record {
      plans = plans-same p ns xs m.place ∙ shape.plans;
      orderly = orderly-to p ns xs m.place m.entry m.at m.going m.earlier shape.orderly;
      locks = locks-apart-to p ns xs m.place m.entry m.at m.locks shape.locks;
      blocks = blocks-to p ns xs m.place m.entry [] m.at m.going m.blocks shape.orderly shape.blocks;
    })

pub record InOrder (boot : Bytes) (opening : Named) (s : State) : Type 0 where
  pub order : in_list_order boot opening s.entries ≡ s.catalogue
  pub recorded : AsRecorded boot opening s.entries

pub record Unmoved (boot : Bytes) (n : Named) (xs ys : List Going) : Type 0 where
  pub order : in_list_order boot n ys ≡ in_list_order boot n xs
  pub recorded : AsRecorded boot n ys

quiet-ordered : (boot : Bytes) (p : Phase) (ns : List Note) (xs : List Going) (i : ℕ) (x : Going) (n : Named) → slice_get xs i ≡ Some x → count_run (length x.plan.steps) p ≡ count_run (length x.plan.steps) x.phase → refusal_in p ≡ refusal_in x.phase → ns ≡ x.notes → AsRecorded boot n xs → Unmoved boot n xs (changed_at (to p ns) i xs)
quiet-ordered boot p ns [] i x n e count refusal notes recorded = no_head x e
quiet-ordered boot p ns (y ∷ ys) zero x n e count refusal notes recorded =
    let is : x ≡ y = sym (head_is y x e) in
    at (subst (λ (v : Going). count_run (length v.plan.steps) p ≡ count_run (length v.plan.steps) v.phase) is count)
    (subst (λ (v : Going). refusal_in p ≡ refusal_in v.phase) is refusal)
    (subst (λ (v : Going). ns ≡ v.notes) is notes)
  where
    at : count_run (length y.plan.steps) p ≡ count_run (length y.plan.steps) y.phase → refusal_in p ≡ refusal_in y.phase → ns ≡ y.notes → Unmoved boot n (y ∷ ys) (to p ns y ∷ ys)
    at c r m =
        let same : alone boot n (to p ns y) ≡ alone boot n y = ap (λ (j : ℕ). after_steps boot y.plan.id (take j y.plan.steps) (started n)) c in
        record {
          order = ap (λ (w : Under_way). in_list_order boot w.catalogue ys) same;
          recorded = (
            ap (λ (w : Under_way). w.run) same ∙ recorded.0 ∙ sym c,
            ap (λ (w : Under_way). w.notes) same ∙ recorded.1 ∙ sym m,
            ap (λ (w : Under_way). w.refused) same ∙ recorded.2 ∙ sym r,
            subst (λ (w : Under_way). AsRecorded boot w.catalogue ys) (sym same) recorded.3,
          );
        }
quiet-ordered boot p ns (y ∷ ys) (suc i) x n e count refusal notes recorded =
    let more = quiet-ordered boot p ns ys i x (alone boot n y).catalogue e count refusal notes recorded.3 in
    record { order = more.order; recorded = (recorded.0, recorded.1, recorded.2, more.recorded) }

turned : (laws : ChangePlaces) (boot : Bytes) (opening : Named) (pairs : List (QName × QName)) (s t : State) (i : ℕ) (x : Going) (p : Phase) (ns : List Note) → InPlaces boot pairs (map (λ y. y.plan) s.entries) → Given pairs opening → Orderly s.entries → slice_get s.entries i ≡ Some x → t.entries ≡ changed_at (to p ns) i s.entries → Quiet s t x p ns ⊎ Runs_next boot s t x p ns → InOrder boot opening s → InOrder boot opening t
turned laws boot opening pairs s t i x p ns places given ordered at entries (inl q) h =
    let u = quiet-ordered boot p ns s.entries i x opening at q.count q.refusal q.notes h.recorded in
    record {
      order = ap (in_list_order boot opening) entries ∙ u.order ∙ h.order ∙ sym q.catalogue;
      recorded = subst (AsRecorded boot opening) (sym entries) u.recorded;
    }
turned laws boot opening pairs s t i x p ns places given ordered at entries (inr r) h =
    let z : Going = record { plan = x.plan; phase = Running r.worker r.run; notes = x.notes } in
    let is : x ≡ z = ap (λ (q : Phase). record { plan = x.plan; phase = q; notes = x.notes }) r.runs in
    let here : slice_get s.entries i ≡ Some z = at ∙ ap (λ (v : Going). Some v) is in
    let c = in_list_order boot opening s.entries in
    let u = ran_next boot c z r.run (slice_get x.plan.steps r.run) in
    let v = ran_next boot s.catalogue x r.run (slice_get x.plan.steps r.run) in
    let same : v ≡ u = ap (λ (m : Named). ran_next boot m x r.run (slice_get x.plan.steps r.run)) (sym h.order) in
    let q = phase_behind r.worker (length x.plan.steps) u u.refused in
    let ends : p ≡ q = r.phase ∙ ap (λ (w : Under_way). phase_behind r.worker (length x.plan.steps) w w.refused) same in
    let noted : ns ≡ u.notes = r.notes ∙ ap (λ (w : Under_way). w.notes) same in
    let all : t.entries ≡ changed_at (to q u.notes) i s.entries = entries ∙ ap (λ (w : Phase). changed_at (to w ns) i s.entries) ends ∙ ap (λ (ms : List Note). changed_at (to q ms) i s.entries) noted in
    let st : Stepped boot opening u (changed_at (to q u.notes) i s.entries) = step-ordered laws boot r.worker s.entries i x.plan x.notes r.run opening pairs places given ordered h.recorded here in
    record {
      order = ap (in_list_order boot opening) all ∙ st.order ∙ sym (r.catalogue ∙ ap (λ (w : Under_way). w.catalogue) same);
      recorded = subst (AsRecorded boot opening) (sym all) st.recorded;
    }

-- ---- over histories

first-ordered : (ps : List Planned) (x : Going) → OrdersLater x (map (λ p. record { plan = p; phase = Waiting; notes = [] }) ps)
first-ordered [] x = tt
first-ordered (p ∷ ps) x = (λ begun. absurd (both_ways true refl begun), first-ordered ps x)

first-locks : (ps : List Planned) (x : Going) → LocksLater x (map (λ p. record { plan = p; phase = Waiting; notes = [] }) ps)
first-locks [] x = tt
first-locks (p ∷ ps) x = (λ q r. absurd (both_ways false r refl), first-locks ps x)

all-ordered : (ps : List Planned) → Orderly (map (λ p. record { plan = p; phase = Waiting; notes = [] }) ps)
all-ordered [] = tt
all-ordered (p ∷ ps) = (first-ordered ps (record { plan = p; phase = Waiting; notes = [] }), all-ordered ps)

all-locks : (ps : List Planned) → LocksApart (map (λ p. record { plan = p; phase = Waiting; notes = [] }) ps)
all-locks [] = tt
all-locks (p ∷ ps) = (first-locks ps (record { plan = p; phase = Waiting; notes = [] }), all-locks ps)

all-blocks : (ps : List Planned) (ended : List (ℕ × EntryStatus)) → Blocks ended (map (λ p. record { plan = p; phase = Waiting; notes = [] }) ps)
all-blocks [] ended = tt
all-blocks (p ∷ ps) ended = (tt, all-blocks ps (ended ++ []))

all-plans : (ps : List Planned) → map (λ (x : Going). x.plan) (map (λ p. record { plan = p; phase = Waiting; notes = [] }) ps) ≡ ps
all-plans [] = refl
all-plans (p ∷ ps) = ap (λ (qs : List Planned). p ∷ qs) (all-plans ps)

pub first-shape : (opening : Named) (ps : List Planned) → Shape ps (first opening ps).entries
first-shape opening ps = record { plans = all-plans ps; orderly = all-ordered ps; locks = all-locks ps; blocks = all-blocks ps [] }

none-alone : (boot : Bytes) (n : Named) (p : Planned) → alone boot n (record { plan = p; phase = Waiting; notes = [] }) ≡ started n
none-alone boot n p = at p.steps
  where
    at : (ss : List Statement) → after_steps boot p.id (take 0 ss) (started n) ≡ started n
    at [] = refl
    at (s ∷ ss) = refl

pub first-order : (boot : Bytes) (opening : Named) (ps : List Planned) → InOrder boot opening (first opening ps)
first-order boot opening [] = record { order = refl; recorded = tt }
first-order boot opening (p ∷ ps) =
    let is = none-alone boot opening p in
    let more = first-order boot opening ps in
    record {
      order = ap (λ (w : Under_way). in_list_order boot w.catalogue (first opening ps).entries) is ∙ more.order;
      recorded = (
        ap (λ (w : Under_way). w.run) is,
        ap (λ (w : Under_way). w.notes) is,
        ap (λ (w : Under_way). w.refused) is,
        subst (λ (w : Under_way). AsRecorded boot w.catalogue (first opening ps).entries) (sym is) more.recorded,
      );
    }

pub shape-after : (boot : Bytes) (ps : List Planned) (es : List Event) (s : State) → Shape ps s.entries → IsLegal boot s es → Shape ps (after boot s es).entries
shape-after boot ps [] s shape legal = shape
shape-after boot ps (e ∷ es) s shape legal =
    shape-after boot ps es (happens boot s e) (shape-kept boot ps s (happens boot s e) (moves boot s e shape.orderly shape.blocks legal.0) shape) legal.1

pub order-after : (laws : ChangePlaces) (boot : Bytes) (opening : Named) (pairs : List (QName × QName)) (ps : List Planned) → InPlaces boot pairs ps → Given pairs opening → (es : List Event) (s : State) → Shape ps s.entries → InOrder boot opening s → IsLegal boot s es → InOrder boot opening (after boot s es)
order-after laws boot opening pairs ps places given [] s shape h legal = h
order-after laws boot opening pairs ps places given (e ∷ es) s shape h legal =
    let m : Move boot s (happens boot s e) = moves boot s e shape.orderly shape.blocks legal.0 in
    order-after laws boot opening pairs ps places given es (happens boot s e) (shape-kept boot ps s (happens boot s e) m shape)
    (turned laws boot opening pairs s (happens boot s e) m.place m.entry m.phase m.notes (subst (InPlaces boot pairs) (sym shape.plans) places) given shape.orderly m.at m.entries m.turn h) legal.1
