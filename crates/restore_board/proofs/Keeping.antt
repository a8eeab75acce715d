-- What a board keeps, where nothing has happened and where one event more happens.
use Rattle.std.proofs.Common.{◌≡◌, ℕ, ◌+◌, ◌<◌, ◌≤◌, true, List, [], ◌∷◌, ◌++◌, length, replicate, Some, refl, ap, sym, subst, ◌∙◌, length-append, arith}
use Rattle.std.proofs.lemmas.List.{length-replicate}
use Rattle.cat_model.specs.Values.{Bytes, Named}
use Rattle.restore_plan.specs.declared.planned.Planned.{Planned}
use Rattle.restore_plan.specs.declared.status.EntryStatus.{EntryStatus}
use Rattle.restore_plan.specs.declared.status.Note.{Note}
use Rattle.restore_core.specs.declared.event.Event.{Event}
use Rattle.restore_core.specs.declared.phase.Phase.{Phase}
use Rattle.restore_core.specs.declared.phase.Phase.TheVariants.{Waiting}
use Rattle.restore_core.specs.Machine.{Going, State, enabled, first, happens}
use Rattle.restore_turns.specs.Measures.{most_events}
use Rattle.restore_turns.proofs.Histories.{bounded, leads-on, one-more, whole}
use Rattle.restore_queue.specs.Queues.{Lined}
use Rattle.restore_board.specs.Kept.{Kept, goings}
use Rattle.restore_board.specs.Standing.{HasLegalHistory, Standing, state, with_event}
use Rattle.restore_board.proofs.Going.{first-goings}
use Rattle.restore_board.proofs.Moves.{stands}

pub legal-on : (s : Standing) (e : Event) → HasLegalHistory s → enabled (state s) e ≡ true → HasLegalHistory (with_event (Some e) s)
legal-on s e legal may = one-more s.boot (first s.opening s.plan) s.history e legal may

pub state-on : (s : Standing) (e : Event) → state (with_event (Some e) s) ≡ happens s.boot (state s) e
state-on s e = leads-on s.boot (first s.opening s.plan) s.history e

-- a legal history has no more events than there is room for
pub within : (s : Standing) → HasLegalHistory s → length s.history ≤ most_events s.plan
within s legal =
    let most = bounded s.boot (first s.opening s.plan) s.history legal in
    let all = whole s.opening s.plan in
    omega arith

-- there is room for an event that is enabled
pub fits : (s : Standing) (e : Event) (room : ℕ) → HasLegalHistory s → enabled (state s) e ≡ true → most_events s.plan ≤ room → length s.history < room
fits s e room legal may enough =
    let most = within (with_event (Some e) s) (legal-on s e legal may) in
    let one : length (s.history ++ e ∷ []) ≡ length s.history + 1 = length-append s.history (e ∷ []) in
    omega arith

pub kept-first : (opening : Named) (boot : Bytes) (plan : List Planned) (named : Named) (role : Bytes) (phases : List Phase) (notes : List (List Note)) (history : List Event) (events : ℕ) (statuses : List EntryStatus) (room : ℕ) → named ≡ opening → role ≡ boot → phases ≡ replicate (length plan) Waiting → notes ≡ replicate (length plan) [] → history ≡ [] → most_events plan ≤ events → statuses ≡ [] → length plan ≤ room → Kept (record { opening = opening; boot = boot; plan = plan; history = history }) named role phases notes events statuses room
kept-first opening boot plan named role phases notes history events statuses room en er ef eo eh fit es many =
    subst (λ (h : List Event). Kept (record { opening = opening; boot = boot; plan = plan; history = h }) named role phases notes events statuses room) (sym eh)
    (record {
      legal = tt;
      leads =
          ap (λ (xs : List Going). stands opening xs) (sym (first-goings opening plan))
          ∙ ap (λ (n : Named). stands n (goings plan (replicate (length plan) Waiting) (replicate (length plan) []))) (sym en)
          ∙ ap (λ (f : List Phase). stands named (goings plan f (replicate (length plan) []))) (sym ef)
          ∙ ap (λ (n : List (List Note)). stands named (goings plan phases n)) (sym eo);
      same_role = er;
      many_phases = ap length ef ∙ length-replicate (length plan) Waiting;
      many_notes = ap length eo ∙ length-replicate (length plan) [];
      has_room = fit;
      no_status = es;
      has_statuses = many;
    })

pub kept-on : (s : Standing) (e : Event) (named named' : Named) (role role' : Bytes) (phases phases' : List Phase) (notes notes' : List (List Note)) (events events' : ℕ) (statuses : List EntryStatus) (room : ℕ) → Kept s named role phases notes events statuses room → enabled (state s) e ≡ true → happens s.boot (stands named (goings s.plan phases notes)) e ≡ stands named' (goings s.plan phases' notes') → role' ≡ role → length phases' ≡ length phases → length notes' ≡ length notes → events' ≡ events → Kept (with_event (Some e) s) named' role' phases' notes' events' statuses room
kept-on s e named named' role role' phases phases' notes notes' events events' statuses room k may is er ef en ee = record {
  legal = legal-on s e k.legal may;
  leads = state-on s e ∙ ap (λ (t : State). happens s.boot t e) k.leads ∙ is;
  same_role = er ∙ k.same_role;
  many_phases = ef ∙ k.many_phases;
  many_notes = en ∙ k.many_notes;
  has_room = subst (λ (n : ℕ). most_events s.plan ≤ n) (sym ee) k.has_room;
  no_status = k.no_status;
  has_statuses = k.has_statuses;
}

-- the same with the history as it is told
pub kept-told : (s : Standing) (e : Event) (history : List Event) (named : Named) (role : Bytes) (phases : List Phase) (notes : List (List Note)) (events : ℕ) (statuses : List EntryStatus) (room : ℕ) → history ≡ s.history ++ e ∷ [] → Kept (with_event (Some e) s) named role phases notes events statuses room → Kept (record { opening = s.opening; boot = s.boot; plan = s.plan; history = history }) named role phases notes events statuses room
kept-told s e history named role phases notes events statuses room is k =
    subst (λ (h : List Event). Kept (record { opening = s.opening; boot = s.boot; plan = s.plan; history = h }) named role phases notes events statuses room) (sym is) k

-- ---- the same for a queue as it is told

pub kept-begun : (opening : Named) (boot : Bytes) (plan : List Planned) (queue : Lined) (named : Named) (role : Bytes) (notes : List (List Note)) (history : List Event) (events : ℕ) (statuses : List EntryStatus) (room : ℕ) → queue ≡ record { plan = plan; phases = replicate (length plan) Waiting } → named ≡ opening → role ≡ boot → notes ≡ replicate (length plan) [] → history ≡ [] → most_events plan ≤ events → statuses ≡ [] → length plan ≤ room → Kept (record { opening = opening; boot = boot; plan = queue.plan; history = history }) named role queue.phases notes events statuses room
kept-begun opening boot plan queue named role notes history events statuses room eq en er eo eh fit es many =
    subst (λ (q : Lined). Kept (record { opening = opening; boot = boot; plan = q.plan; history = history }) named role q.phases notes events statuses room) (sym eq)
    (kept-first opening boot plan named role (replicate (length plan) Waiting) notes history events statuses room en er refl eo eh fit es many)

pub kept-after : (s : Standing) (e : Event) (queue : Lined) (history : List Event) (named named' : Named) (role role' : Bytes) (phases phases' : List Phase) (notes notes' : List (List Note)) (events events' : ℕ) (statuses : List EntryStatus) (room : ℕ) → Kept s named role phases notes events statuses room → enabled (state s) e ≡ true → happens s.boot (stands named (goings s.plan phases notes)) e ≡ stands named' (goings s.plan phases' notes') → role' ≡ role → length phases' ≡ length phases → length notes' ≡ length notes → events' ≡ events → queue ≡ record { plan = s.plan; phases = phases' } → history ≡ s.history ++ e ∷ [] → Kept (record { opening = s.opening; boot = s.boot; plan = queue.plan; history = history }) named' role' queue.phases notes' events' statuses room
kept-after s e queue history named named' role role' phases phases' notes notes' events events' statuses room k may is er ef en ee eq eh =
    subst (λ (q : Lined). Kept (record { opening = s.opening; boot = s.boot; plan = q.plan; history = history }) named' role' q.phases notes' events' statuses room) (sym eq)
    (kept-told s e history named' role' phases' notes' events' statuses room eh (kept-on s e named named' role role' phases phases' notes notes' events events' statuses room k may is er ef en ee))

abbrev standing : Standing → List Planned → List Event → Standing
standing s plan history = record { opening = s.opening; boot = s.boot; plan = plan; history = history }

-- what a contract sees then
pub seen-after : (s was : Standing) (e : Event) (queue : Lined) (phases : List Phase) (history : List Event) → s ≡ was → queue ≡ record { plan = s.plan; phases = phases } → history ≡ s.history ++ e ∷ [] → ◌≡◌ {A = Standing} (record { opening = s.opening; boot = s.boot; plan = queue.plan; history = history }) (with_event (Some e) was)
seen-after s was e queue phases history es eq eh =
    ap (λ (q : Lined). standing s q.plan history) eq ∙ ap (standing s s.plan) eh ∙ ap (with_event (Some e)) es
