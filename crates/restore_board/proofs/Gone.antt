-- What a step of a worker's entry needs of what a board keeps, and what it makes of the state.
use Rattle.std.proofs.Common.{◌≡◌, ℕ, ◌<◌, Bool, true, false, cond, nat_lt, not, List, length, Option, Some, None, refl, ap, sym, subst, ◌∙◌}
use Rattle.std.proofs.Math.ListN.{set}
use Rattle.std.proofs.lemmas.Option.{slice_get_within}
use Rattle.std.specs.List.{list_any, slice_get}
use Rattle.cat_engine.specs.Held.{Held}
use Rattle.cat_model.specs.declared.cause.Cause.{Cause}
use Rattle.cat_model.specs.Values.{Bytes, Named}
use Rattle.restore_plan.specs.declared.planned.Planned.{Planned}
use Rattle.restore_plan.specs.declared.status.EntryStatus.{EntryStatus}
use Rattle.restore_plan.specs.declared.status.EntryStatus.TheVariants.{Done}
use Rattle.restore_plan.specs.declared.status.Note.{Note}
use Rattle.restore_plan.specs.Serial.{Under_way}
use Rattle.restore_core.specs.declared.event.Event.TheVariants.{Step}
use Rattle.restore_core.specs.declared.phase.Phase.{Phase}
use Rattle.restore_core.specs.declared.phase.Phase.TheVariants.{Running, Ended}
use Rattle.restore_core.specs.Phases.{is_run_by}
use Rattle.restore_core.specs.Machine.{Going, State, enabled, happens, is_free, phase_behind, place_of, ran_next}
use Rattle.restore_core.proofs.Booleans.{both_ways}
use Rattle.restore_core.proofs.Pairs.{head_is}
use Rattle.restore_queue.specs.Nexts.{IsNext}
use Rattle.restore_queue.proofs.Ready.{phase-of, plan-of}
use Rattle.restore_board.specs.Kept.{Kept, goings}
use Rattle.restore_board.specs.Ran.{HasGone}
use Rattle.restore_board.specs.Standing.{Standing, state}
use Rattle.restore_board.proofs.Going.{notes-of}
use Rattle.restore_board.proofs.Moves.{Runs, runs-in, stands, went-on}
use Rattle.restore_board.proofs.Noting.{same-many}
use Rattle.restore_board.proofs.Told.{leads-to, lined}

pub not-free : (b : Bool) → not b ≡ false → b ≡ true
not-free true h = refl
not-free false h = absurd (both_ways true refl h)

-- a worker that runs an entry may take a step
pub may-step : (s : State) (worker : ℕ) → is_free worker s.entries ≡ false → enabled s (Step worker) ≡ true
may-step s worker busy = not-free (list_any (λ x. is_run_by worker x.phase) s.entries) busy

next-behind : (worker many : ℕ) (u : Under_way) (o : Option Cause) → IsNext worker (phase_behind worker many u o)
next-behind worker many u (Some cause) = tt
next-behind worker many u None = at (nat_lt u.run many)
  where
    at : (b : Bool) → IsNext worker (cond b (Running worker u.run) (Ended Done))
    at true = refl
    at false = tt

pub gone-next : (w : Under_way) (worker many : ℕ) (named : Named) (phase : Phase) (entry : ℕ) (had : List Note) (old new : List (List Note)) → HasGone w worker many named phase entry had old new → IsNext worker phase
gone-next w worker many named phase entry had old new gone =
    subst (IsNext worker) (sym gone.behind) (next-behind worker many w w.refused)

-- where nothing has changed
pub kept-still : (s : Standing) (held held' : Held) (phases : List Phase) (notes notes' : List (List Note)) (events : ℕ) (statuses : List EntryStatus) (room : ℕ) → Kept s held.named held.boot phases notes events statuses room → held' ≡ held → notes' ≡ notes → Kept s held'.named held'.boot phases notes' events statuses room
kept-still s held held' phases notes notes' events statuses room k eh en =
    subst (λ (n : List (List Note)). Kept s held'.named held'.boot phases n events statuses room) (sym en)
    (subst (λ (h : Held). Kept s h.named h.boot phases notes events statuses room) (sym eh) k)

module _ (s : Standing) (named : Named) (role : Bytes) (phases : List Phase) (notes : List (List Note)) (events : ℕ) (statuses : List EntryStatus) (room : ℕ) (k : Kept s named role phases notes events statuses room) where
  module _ (was : Standing) (is : s ≡ was) (worker entry : ℕ) (busy : is_free worker (state was).entries ≡ false) (place : place_of worker (state was).entries ≡ entry) where
    here : place_of worker (goings s.plan phases notes) ≡ entry
    here = ap (λ (t : State). place_of worker t.entries) (sym (leads-to s named role phases notes events statuses room k was is)) ∙ place

    -- the entry that it runs
    pub running : Runs (goings s.plan phases notes) worker entry
    running =
        let any : list_any (λ x. is_run_by worker x.phase) (goings s.plan phases notes) ≡ true =
        subst (λ (t : State). list_any (λ x. is_run_by worker x.phase) t.entries ≡ true) (leads-to s named role phases notes events statuses room k was is) (may-step (state was) worker busy) in
        subst (Runs (goings s.plan phases notes) worker) here (runs-in (goings s.plan phases notes) worker any)

    pub plan-there : slice_get s.plan entry ≡ Some running.entry.plan
    plan-there = plan-of s.plan phases (goings s.plan phases notes) (lined s named role phases notes events statuses room k) entry running.entry running.there

    pub within-plan : entry < length s.plan
    within-plan = slice_get_within s.plan entry running.entry.plan plan-there

    pub within-notes : entry < length notes
    within-notes = slice_get_within notes entry running.entry.notes (notes-of s.plan phases notes entry running.entry running.there)

    pub runs-there : slice_get phases entry ≡ Some (Running worker running.run)
    runs-there =
        phase-of s.plan phases (goings s.plan phases notes) (lined s named role phases notes events statuses room k) entry running.entry running.there
        ∙ ap (λ (p : Phase). Some p) running.runs

    pub planned-is : (p : Planned) → slice_get s.plan entry ≡ Some p → p ≡ running.entry.plan
    planned-is p at = head_is p running.entry.plan (sym at ∙ plan-there)

    pub is-next : (p : Planned) (run : ℕ) (named' : Named) (phase : Phase) (notes' : List (List Note)) → slice_get s.plan entry ≡ Some p → ((x : Going) → x.plan ≡ p → HasGone (ran_next role named x run (slice_get p.steps run)) worker (length p.steps) named' phase entry x.notes notes notes') → IsNext worker phase
    is-next p run named' phase notes' at gone =
        let x = running.entry in
        gone-next (ran_next role named x run (slice_get p.steps run)) worker (length p.steps) named' phase entry x.notes notes notes' (gone x (sym (planned-is p at)))

    -- what the step makes of the state
    pub stepped-on : (p : Planned) (run : ℕ) (named' : Named) (phase : Phase) (notes' : List (List Note)) → slice_get s.plan entry ≡ Some p → run ≡ running.run → ((x : Going) → x.plan ≡ p → HasGone (ran_next role named x run (slice_get p.steps run)) worker (length p.steps) named' phase entry x.notes notes notes') → happens s.boot (stands named (goings s.plan phases notes)) (Step worker) ≡ stands named' (goings s.plan (set phases entry phase) notes')
    stepped-on p run named' phase notes' at er gone =
        let x = running.entry in
        let ep : p ≡ x.plan = planned-is p at in
        let u : Under_way = ran_next role named x run (slice_get p.steps run) in
        let g : HasGone u worker (length p.steps) named' phase entry x.notes notes notes' = gone x (sym ep) in
        let ran : ran_next s.boot named x running.run (slice_get x.plan.steps running.run) ≡ u =
        (λ j. ran_next (sym k.same_role j) named x (sym er j) (slice_get (sym ep j).steps (sym er j))) in
        let behind : phase ≡ phase_behind worker (length x.plan.steps) u u.refused =
        g.behind ∙ ap (λ (q : Planned). phase_behind worker (length q.steps) u u.refused) ep in
        went-on s.boot named named' s.plan phases notes worker entry running.run x u phase g.more here running.there running.runs ran g.catalogue behind g.noted
        ∙ ap (λ (n : List (List Note)). stands named' (goings s.plan (set phases entry phase) n)) (sym g.put)

    pub same-many-notes : (p : Planned) (run : ℕ) (named' : Named) (phase : Phase) (notes' : List (List Note)) → slice_get s.plan entry ≡ Some p → ((x : Going) → x.plan ≡ p → HasGone (ran_next role named x run (slice_get p.steps run)) worker (length p.steps) named' phase entry x.notes notes notes') → length notes' ≡ length notes
    same-many-notes p run named' phase notes' at gone =
        let x = running.entry in
        let g : HasGone (ran_next role named x run (slice_get p.steps run)) worker (length p.steps) named' phase entry x.notes notes notes' = gone x (sym (planned-is p at)) in
        ap length g.put ∙ same-many notes entry g.more
