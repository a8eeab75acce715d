use Rattle.std.proofs.Common.{◌≡◌, ℕ, ◌<◌, false, List, Option, None, is_none, IfSome, IfNone, ap, sym, subst, ◌∙◌}
use Rattle.restore_queue.specs.Lined.{AreGoing}
use Rattle.restore_queue.specs.Queues.{Lined}
use Rattle.restore_queue.specs.Workers.{entry_in}
use Rattle.restore_queue.proofs.Indexing.{none-any}
use Rattle.restore_queue.proofs.Workers.{any-runs-is, free-is}
use Rattle.restore_queue.proofs.queue.Queue.first_worker.Goals as goal

pub returns-clause-some : goal.returns-clause-some
returns-clause-some c = λ entries worker are e.
    let q = c.self.inside in
    let are' = subst (λ (l : Lined). AreGoing l.plan l.phases entries) (sym c.self.view_is) are in
    let said = subst (λ (o : Option ℕ). IfSome o (λ w. (w < 64) × (is_none (entry_in c.as_slice.result.now w) ≡ false))) e c.first_worker.ensures.some in (
      said.0,
      free-is q.plan.now q.phases.items entries q.running.items worker are' c.self.invariant.kept.running_all
          ∙ ap (λ (r : List (Option ℕ)). is_none (entry_in r worker)) (sym c.as_slice.ensures.value)
          ∙ said.1,
    )

pub returns-clause-first : goal.returns-clause-first
returns-clause-first c = λ entries worker k are e less.
    let q = c.self.inside in
    let are' = subst (λ (l : Lined). AreGoing l.plan l.phases entries) (sym c.self.view_is) are in
    let said = subst (λ (o : Option ℕ). IfSome o (λ w. (j : ℕ) → j < w → entry_in c.as_slice.result.now j ≡ None)) e c.first_worker.ensures.first in
    free-is q.plan.now q.phases.items entries q.running.items k are' c.self.invariant.kept.running_all
    ∙ ap (λ (r : List (Option ℕ)). is_none (entry_in r k)) (sym c.as_slice.ensures.value)
    ∙ ap is_none (said k less)

pub returns-clause-none : goal.returns-clause-none
returns-clause-none c = λ entries are e.
    let q = c.self.inside in
    let are' = subst (λ (l : Lined). AreGoing l.plan l.phases entries) (sym c.self.view_is) are in
    let said = subst (λ (o : Option ℕ). IfNone o ((w : ℕ) → w < 64 → entry_in c.as_slice.result.now w ≡ None)) e c.first_worker.ensures.none in
    any-runs-is q.plan.now q.phases.items entries q.running.items are' c.self.invariant.kept.running_all
    ∙ none-any q.running.items
    (λ w less. ap (λ (r : List (Option ℕ)). entry_in r w) (sym c.as_slice.ensures.value) ∙ said w (subst (λ (n : ℕ). w < n) c.self.invariant.kept.running_all.many less))
