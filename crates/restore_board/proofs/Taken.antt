-- The event with which a worker's turn begins.
use Rattle.std.proofs.Common.{◌≡◌, ℕ, Bool, true, false, cond, Some, None, ap, sym, ◌∙◌}
use Rattle.restore_core.specs.declared.event.Event.{Event}
use Rattle.restore_core.specs.declared.event.Event.TheVariants as event
use Rattle.restore_core.specs.Machine.{State, enabled, is_free, place_of}
use Rattle.restore_turns.specs.declared.turn.Turn.{Turn}
use Rattle.restore_turns.specs.declared.turn.Turn.TheVariants.{Run, Skip, NotYet, Finished}
use Rattle.restore_turns.specs.Turns.{event_of, first_to_go, turn, turn_at}
use Rattle.restore_turns.proofs.Taking.{turn-enabled}

module _ (worker : ℕ) (s : State) where
  -- one that runs an entry goes on with it
  pub goes-on : is_free worker s.entries ≡ false → turn worker s ≡ Run (place_of worker s.entries)
  goes-on busy = ap (λ (b : Bool). cond b (turn_at s (first_to_go worker s)) (Run (place_of worker s.entries))) busy

  pub no-event : is_free worker s.entries ≡ false → event_of worker s (turn worker s) ≡ None
  no-event busy =
      ap (event_of worker s) (goes-on busy) ∙ ap (λ (b : Bool). cond b (Some (event.Start worker (place_of worker s.entries))) None) busy

  module _ (t : Turn) (is : t ≡ turn worker s) where
    pub runs : (i : ℕ) → is_free worker s.entries ≡ true → t ≡ Run i → event_of worker s (turn worker s) ≡ Some (event.Start worker i)
    runs i free e = ap (event_of worker s) (sym is ∙ e) ∙ ap (λ (b : Bool). cond b (Some (event.Start worker i)) None) free

    pub skips : (i : ℕ) → t ≡ Skip i → event_of worker s (turn worker s) ≡ Some (event.Skip i)
    skips i e = ap (event_of worker s) (sym is ∙ e)

    pub waits : t ≡ NotYet → event_of worker s (turn worker s) ≡ None
    waits e = ap (event_of worker s) (sym is ∙ e)

    pub ends : t ≡ Finished → event_of worker s (turn worker s) ≡ None
    ends e = ap (event_of worker s) (sym is ∙ e)

  pub may : (e : Event) → event_of worker s (turn worker s) ≡ Some e → enabled s e ≡ true
  may e is = turn-enabled worker s e is
