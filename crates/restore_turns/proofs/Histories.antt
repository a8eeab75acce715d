-- Histories with an event more, and how long they are.
use Rattle.std.proofs.Common.{◌≡◌, ℕ, ◌+◌, ◌≤◌, true, List, [], ◌∷◌, ◌++◌, length, refl, ap, arith}
use Rattle.cat_model.specs.Values.{Bytes, Named}
use Rattle.restore_plan.specs.declared.planned.Planned.{Planned}
use Rattle.restore_core.specs.declared.event.Event.{Event}
use Rattle.restore_core.specs.Machine.{State, first, enabled, happens, IsLegal, after}
use Rattle.restore_turns.specs.Measures.{left, most_events}
use Rattle.restore_turns.proofs.Lessening.{lessens}

pub one-more : (boot : Bytes) (s : State) (events : List Event) (e : Event) → IsLegal boot s events → enabled (after boot s events) e ≡ true → IsLegal boot s (events ++ e ∷ [])
one-more boot s [] e legal is = (is, tt)
one-more boot s (f ∷ fs) e legal is = (legal.0, one-more boot (happens boot s f) fs e legal.1 is)

pub leads-on : (boot : Bytes) (s : State) (events : List Event) (e : Event) → after boot s (events ++ e ∷ []) ≡ happens boot (after boot s events) e
leads-on boot s [] e = refl
leads-on boot s (f ∷ fs) e = leads-on boot (happens boot s f) fs e

pub bounded : (boot : Bytes) (s : State) (events : List Event) → IsLegal boot s events → length events + left (after boot s events).entries ≤ left s.entries
bounded boot s [] legal = omega arith
bounded boot s (f ∷ fs) legal =
    let less = lessens boot s f legal.0 in
    let rest = bounded boot (happens boot s f) fs legal.1 in
    omega arith

pub whole : (opening : Named) (ps : List Planned) → left (first opening ps).entries ≡ most_events ps
whole opening [] = refl
whole opening (p ∷ ps) = ap (λ (n : ℕ). length p.steps + 2 + n) (whole opening ps)
