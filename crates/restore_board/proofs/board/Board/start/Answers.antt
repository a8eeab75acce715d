use Rattle.std.proofs.Common.{is_none, ap, sym, ◌∙◌}
use Rattle.restore_core.specs.declared.event.Event.{Event}
use Rattle.std.proofs.Common.{Option, ℕ}
use Rattle.restore_turns.specs.declared.turn.Turn.TheVariants.{Run}
use Rattle.restore_board.specs.Standing.{state, with_event}
use Rattle.restore_board.proofs.Taken.{goes-on, no-event}
use Rattle.restore_board.proofs.Told.{same-lined}
use Rattle.restore_board.proofs.board.Board.start.Goals as goal

pub returns-in-Some : goal.returns-in-Some
returns-in-Some c =
    let s = state c.args.self.now in
    let are = same-lined _ _ _ _ _ _ _ _ c.self.invariant _ c.self.view_is in
    let busy = c.entry_of.ensures.free s.entries are ∙ ap is_none c.in-Some.is in
    let place = c.entry_of.ensures.place s.entries c.in-Some.entry are c.in-Some.is in
    record {
      turn = ap (λ (i : ℕ). Run i) (sym place) ∙ sym (goes-on c.args.worker s busy);
      event = ap (λ (o : Option Event). with_event o c.args.self.now) (sym (no-event c.args.worker s busy));
    }

pub take-requires-clause-free : goal.take-requires-clause-free
take-requires-clause-free c =
    let s = state c.args.self.now in
    let are = same-lined _ _ _ _ _ _ _ _ c.self.invariant _ c.self.view_is in
    c.entry_of.ensures.free s.entries are ∙ ap is_none c.in-None.is
