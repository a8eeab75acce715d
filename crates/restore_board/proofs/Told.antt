-- What a board's methods need of what it keeps.
use Rattle.std.proofs.Common.{◌≡◌, ℕ, ◌<◌, true, false, List, Some, None, is_none, take, refl, ap, sym, subst, ◌∙◌}
use Rattle.std.specs.List.{list_any, slice_get}
use Rattle.cat_model.specs.Values.{Bytes, Named}
use Rattle.restore_plan.specs.declared.status.EntryStatus.{EntryStatus}
use Rattle.restore_plan.specs.declared.status.Note.{Note}
use Rattle.restore_core.specs.declared.event.Event.TheVariants.{Start, Skip}
use Rattle.restore_core.specs.declared.phase.Phase.{Phase}
use Rattle.restore_core.specs.declared.phase.Phase.TheVariants.{Waiting}
use Rattle.restore_core.specs.Phases.{is_run_by}
use Rattle.restore_core.specs.Machine.{Going, State, blocked_by, enabled}
use Rattle.restore_core.proofs.Booleans.{both_ways}
use Rattle.restore_queue.specs.Lined.{AreGoing}
use Rattle.restore_queue.proofs.Ready.{phase-of}
use Rattle.restore_board.specs.Kept.{Kept, goings}
use Rattle.restore_board.specs.Standing.{Standing, state}
use Rattle.restore_board.proofs.Going.{are-going}
use Rattle.restore_board.proofs.Moves.{any-mapped, may-skip, may-start, Skips, Starts, stands, Waits}

module _ (s : Standing) (named : Named) (role : Bytes) (phases : List Phase) (notes : List (List Note)) (events : ℕ) (statuses : List EntryStatus) (room : ℕ) (k : Kept s named role phases notes events statuses room) where
  pub lined : AreGoing s.plan phases (goings s.plan phases notes)
  lined = are-going s.plan phases notes k.many_phases k.many_notes

  pub waiting-at : (i : ℕ) → Waits (goings s.plan phases notes) i → slice_get phases i ≡ Some Waiting
  waiting-at i w = phase-of s.plan phases (goings s.plan phases notes) lined i w.entry w.there ∙ ap (λ (p : Phase). Some p) w.waits

  -- the same of what a contract sees
  module _ (was : Standing) (is : s ≡ was) where
    pub leads-to : state was ≡ stands named (goings s.plan phases notes)
    leads-to = ap state (sym is) ∙ k.leads

    pub same-lined : AreGoing s.plan phases (state was).entries
    same-lined = subst (λ (t : State). AreGoing s.plan phases t.entries) (sym leads-to) lined

    pub starting : (worker i : ℕ) → enabled (state was) (Start worker i) ≡ true → Starts (goings s.plan phases notes) worker i
    starting worker i may = may-start (stands named (goings s.plan phases notes)) worker i (subst (λ (t : State). enabled t (Start worker i) ≡ true) leads-to may)

    pub starts-small : (worker i : ℕ) → enabled (state was) (Start worker i) ≡ true → worker < 64
    starts-small worker i may = (starting worker i may).small

    pub starts-free : (worker i : ℕ) → enabled (state was) (Start worker i) ≡ true → list_any (is_run_by worker) phases ≡ false
    starts-free worker i may =
        ap (list_any (is_run_by worker)) (sym lined.are) ∙ any-mapped (is_run_by worker) (goings s.plan phases notes) ∙ (starting worker i may).free

    pub starts-waiting : (worker i : ℕ) → enabled (state was) (Start worker i) ≡ true → slice_get phases i ≡ Some Waiting
    starts-waiting worker i may = waiting-at i (starting worker i may).at

    pub skipping : (i : ℕ) → enabled (state was) (Skip i) ≡ true → Skips (goings s.plan phases notes) i
    skipping i may = may-skip (stands named (goings s.plan phases notes)) i (subst (λ (t : State). enabled t (Skip i) ≡ true) leads-to may)

    pub skips-waiting : (i : ℕ) → enabled (state was) (Skip i) ≡ true → slice_get phases i ≡ Some Waiting
    skips-waiting i may = waiting-at i (skipping i may).at

    -- what skips it, told of the state
    pub skipped-by : (i by : ℕ) → ((x : Going) → slice_get (state was).entries i ≡ Some x → blocked_by (take i (state was).entries) x ≡ Some by) → (x : Going) → slice_get (goings s.plan phases notes) i ≡ Some x → blocked_by (take i (goings s.plan phases notes)) x ≡ Some by
    skipped-by i by told x e =
        subst (λ (t : State). (y : Going) → slice_get t.entries i ≡ Some y → blocked_by (take i t.entries) y ≡ Some by) leads-to told x e

    -- something does
    pub some-skips : (i : ℕ) → enabled (state was) (Skip i) ≡ true → ((x : Going) → slice_get (goings s.plan phases notes) i ≡ Some x → None ≡ blocked_by (take i (goings s.plan phases notes)) x) → ⊥
    some-skips i may none =
        let k = skipping i may in
        both_ways false (ap is_none (sym (none k.at.entry k.at.there ∙ k.blocked))) refl
