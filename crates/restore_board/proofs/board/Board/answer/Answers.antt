use Rattle.std.proofs.Common.{Bool, cond, is_none, ap, sym, ◌∙◌}
use Rattle.restore_board.specs.declared.answer.StepAnswer.TheVariants.{Done, More}
use Rattle.restore_board.specs.Standing.{state}
use Rattle.restore_board.proofs.Told.{same-lined}
use Rattle.restore_board.proofs.board.Board.answer.Goals as goal

pub returns-in-Some : goal.returns-in-Some
returns-in-Some c =
    let s = state c.args.self.now in
    let busy = c.entry_of.ensures.free s.entries (same-lined _ _ _ _ _ _ _ _ c.self.invariant _ c.self.view_is) ∙ ap is_none c.in-Some.is in
    ap (λ (b : Bool). cond b Done More) (sym busy)

pub returns-in-None : goal.returns-in-None
returns-in-None c =
    let s = state c.args.self.now in
    let free = c.entry_of.ensures.free s.entries (same-lined _ _ _ _ _ _ _ _ c.self.invariant _ c.self.view_is) ∙ ap is_none c.in-None.is in
    ap (λ (b : Bool). cond b Done More) (sym free)
