-- What skips an entry stays so: an entry that has begun had no blocked dependency, one that was skipped had the one
-- that skipped it, and an entry that goes on later is none of its dependencies.
use Rattle.std.proofs.Common.{◌≡◌, ℕ, zero, suc, Bool, true, false, not, ◌&&◌, ◌||◌, ◌==◌, cond, List, [], ◌∷◌, ◌++◌, map, take, Option, Some, None, refl, ap, sym, subst, ◌∙◌, append_assoc}
use Rattle.std.specs.List.{list_any, find, filter_map, slice_get}
use Rattle.std.proofs.lemmas.List.Folds.{list_any-append}
use Rattle.std.proofs.lemmas.List.Elements.{filter_map-append}
use Rattle.restore_plan.specs.declared.status.EntryStatus.{EntryStatus}
use Rattle.restore_plan.specs.declared.status.EntryStatus.TheVariants.{Done, Refused, Skipped}
use Rattle.restore_plan.specs.declared.status.Note.{Note}
use Rattle.restore_plan.specs.Entries.{is_among}
use Rattle.restore_plan.specs.declared.planned.Planned.{Planned}
use Rattle.restore_plan.specs.Order.{before}
use Rattle.restore_plan.specs.Serial as serial
use Rattle.restore_plan.specs.Serial.{blocks, is_blocked, first_blocked}
use Rattle.cat_model.specs.Marks.{conflict}
use Rattle.restore_core.specs.declared.phase.Phase.{Phase}
use Rattle.restore_core.specs.declared.phase.Phase.TheVariants.{Waiting, Running, Ended}
use Rattle.restore_core.specs.Phases.{is_waiting, has_ended, status_in}
use Rattle.restore_core.specs.Machine.{Going, with_status, ended_of, changed_at}
use Rattle.restore_core.proofs.Booleans.{or_first_false, or_second_false, or_other, or_false, not_true, both_ways, same_number, number_itself}
use Rattle.restore_core.proofs.Pairs.{to, head_is, no_head, Orders, OrdersLater, Orderly}

-- what a phase says of what blocks its entry
abbrev pub BlocksAt : Option ℕ → Phase → Type 0
BlocksAt by Waiting = Unit {0}
BlocksAt by (Running worker run) = by ≡ None
BlocksAt by (Ended Done) = by ≡ None
BlocksAt by (Ended (Refused n cause)) = by ≡ None
BlocksAt by (Ended (Skipped id)) = by ≡ Some id

-- behind entries that have ended so
abbrev pub Blocks : serial.Ended → List Going → Type 0
Blocks ended [] = Unit {0}
Blocks ended (x ∷ xs) = BlocksAt (first_blocked ended x.plan.deps) x.phase × Blocks (ended ++ ended_of (x ∷ [])) xs

-- ---- what an entry that goes on doesn't change

-- the same ids but one are blocked
abbrev pub Like : ℕ → serial.Ended → serial.Ended → Type 0
Like id a b = (d : ℕ) → (id == d) ≡ false → is_blocked a d ≡ is_blocked b d

like-append : (id : ℕ) (a b c : serial.Ended) → Like id a b → Like id (a ++ c) (b ++ c)
like-append id a b c like d other =
    list_any-append (λ e. e.0 == d && blocks e.1) a c ∙ ap (λ (t : Bool). t || is_blocked c d) (like d other) ∙ sym (list_any-append (λ e. e.0 == d && blocks e.1) b c)

not_itself : (id d : ℕ) → (d == id) ≡ false → (b : Bool) → (id == d) ≡ b → (id == d) ≡ false
not_itself id d h true e = absurd (both_ways (id == id) (number_itself id) (subst (λ (j : ℕ). (j == id) ≡ false) (sym (same_number id d e)) h))
not_itself id d h false e = e

first-like : (id : ℕ) (a b : serial.Ended) (deps : List ℕ) → Like id a b → is_among id deps ≡ false → first_blocked a deps ≡ first_blocked b deps
first-like id a b [] like h = refl
first-like id a b (d ∷ ds) like h =
    ap (λ (t : Bool). cond t (Some d) (first_blocked a ds)) (like d (not_itself id d (or_first_false (d == id) (is_among id ds) h) (id == d) refl))
    ∙ ap (λ (later : Option ℕ). cond (is_blocked b d) (Some d) later) (first-like id a b ds like (or_second_false (d == id) (is_among id ds) h))

blocked-one : (p : Planned) (ns : List Note) (d : ℕ) → (p.id == d) ≡ false → (phase : Phase) → is_blocked (ended_of (record { plan = p; phase = phase; notes = ns } ∷ [])) d ≡ false
blocked-one p ns d other Waiting = refl
blocked-one p ns d other (Running worker run) = refl
blocked-one p ns d other (Ended status) = or_false (p.id == d && blocks status) false (ap (λ (t : Bool). t && blocks status) other) refl

like-to : (ended : serial.Ended) (x : Going) (p : Phase) (ns : List Note) → Like x.plan.id (ended ++ ended_of (x ∷ [])) (ended ++ ended_of (to p ns x ∷ []))
like-to ended x p ns d other =
    list_any-append (λ e. e.0 == d && blocks e.1) ended (ended_of (x ∷ []))
    ∙ ap (λ (t : Bool). is_blocked ended d || t) (blocked-one x.plan x.notes d other x.phase ∙ sym (blocked-one x.plan ns d other p))
    ∙ sym (list_any-append (λ e. e.0 == d && blocks e.1) ended (ended_of (to p ns x ∷ [])))

at-same : (a b : Option ℕ) (phase : Phase) → (is_waiting phase ≡ false → a ≡ b) → BlocksAt a phase → BlocksAt b phase
at-same a b Waiting same h = tt
at-same a b (Running worker run) same h = sym (same refl) ∙ h
at-same a b (Ended Done) same h = sym (same refl) ∙ h
at-same a b (Ended (Refused n cause)) same h = sym (same refl) ∙ h
at-same a b (Ended (Skipped id)) same h = sym (same refl) ∙ h

-- an entry before which another goes on doesn't depend on that
apart_from : (x y : Planned) → not (before x y) ≡ true → is_among x.id y.deps ≡ false
apart_from x y h = or_first_false (is_among x.id y.deps) (conflict x.footprint y.footprint) (not_true (before x y) h)

blocks-like : (x : Going) (ys : List Going) (a b : serial.Ended) → has_ended x.phase ≡ false → OrdersLater x ys → Like x.plan.id a b → Blocks a ys → Blocks b ys
blocks-like x [] a b going later like h = tt
blocks-like x (y ∷ ys) a b going later like h = (
  at-same (first_blocked a y.plan.deps) (first_blocked b y.plan.deps) y.phase
      (λ begun. first-like x.plan.id a b y.plan.deps like (apart_from x.plan y.plan (or_other (has_ended x.phase) (not (before x.plan y.plan)) going (later.0 begun)))) h.0,
  blocks-like x ys (a ++ ended_of (y ∷ [])) (b ++ ended_of (y ∷ [])) going later.1 (like-append x.plan.id a b (ended_of (y ∷ [])) like) h.1,
)

-- ---- one entry changes

append_none : (xs : serial.Ended) → xs ++ [] ≡ xs
append_none [] = refl
append_none (x ∷ xs) = ap (λ (ys : serial.Ended). x ∷ ys) (append_none xs)

behind_one : (ended : serial.Ended) (y : Going) (ys : List Going) → ended ++ ended_of (y ∷ ys) ≡ (ended ++ ended_of (y ∷ [])) ++ ended_of ys
behind_one ended y ys =
    ap (λ (later : serial.Ended). ended ++ later) (filter_map-append (λ (x : Going). with_status x.plan.id (status_in x.phase)) (y ∷ []) ys)
    ∙ sym (append_assoc ended (ended_of (y ∷ [])) (ended_of ys))

-- what blocks the entry at a place
pub blocks-at : (xs : List Going) (i : ℕ) (x : Going) (ended : serial.Ended) → slice_get xs i ≡ Some x → Blocks ended xs → BlocksAt (first_blocked (ended ++ ended_of (take i xs)) x.plan.deps) x.phase
blocks-at [] i x ended e h = no_head x e
blocks-at (y ∷ ys) zero x ended e h =
    subst (λ (v : Going). BlocksAt (first_blocked (ended ++ []) v.plan.deps) v.phase) (head_is y x e)
    (subst (λ (z : serial.Ended). BlocksAt (first_blocked z y.plan.deps) y.phase) (sym (append_none ended)) h.0)
blocks-at (y ∷ ys) (suc i) x ended e h =
    subst (λ (z : serial.Ended). BlocksAt (first_blocked z x.plan.deps) x.phase) (sym (behind_one ended y (take i ys)))
    (blocks-at ys i x (ended ++ ended_of (y ∷ [])) e h.1)

pub blocks-to : (p : Phase) (ns : List Note) (xs : List Going) (i : ℕ) (x : Going) (ended : serial.Ended) → slice_get xs i ≡ Some x → has_ended x.phase ≡ false → BlocksAt (first_blocked (ended ++ ended_of (take i xs)) x.plan.deps) p → Orderly xs → Blocks ended xs → Blocks ended (changed_at (to p ns) i xs)
blocks-to p ns [] i x ended e going here ordered h = no_head x e
blocks-to p ns (y ∷ ys) zero x ended e going here ordered h =
    let is : x ≡ y = sym (head_is y x e) in (
      subst (λ (z : serial.Ended). BlocksAt (first_blocked z y.plan.deps) p) (append_none ended)
          (subst (λ (v : Going). BlocksAt (first_blocked (ended ++ []) v.plan.deps) p) is here),
      blocks-like y ys (ended ++ ended_of (y ∷ [])) (ended ++ ended_of (to p ns y ∷ [])) (subst (λ (v : Going). has_ended v.phase ≡ false) is going) ordered.0 (like-to ended y p ns) h.1,
    )
blocks-to p ns (y ∷ ys) (suc i) x ended e going here ordered h = (
  h.0,
  blocks-to p ns ys i x (ended ++ ended_of (y ∷ [])) e going
      (subst (λ (z : serial.Ended). BlocksAt (first_blocked z x.plan.deps) p) (behind_one ended y (take i ys)) here) ordered.1 h.1,
)
