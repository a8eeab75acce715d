use Rattle.std.proofs.Common.{sym, ◌∙◌}
use Rattle.restore_board.proofs.Told.{lined, same-lined, some-skips}
use Rattle.restore_board.proofs.board.Board.skip_entry.Goals as goal

pub skip_by-requires-clause-blocked : goal.skip_by-requires-clause-blocked
skip_by-requires-clause-blocked c = λ x e.
    sym (c.blocker.ensures.there _ x (same-lined _ _ _ _ _ _ _ _ c.self.invariant _ c.self.view_is) e) ∙ c.in-Some.is

pub returns-in-None : goal.returns-in-None
returns-in-None c =
    absurd (some-skips _ _ _ _ _ _ _ _ c.self.invariant _ c.self.view_is c.args.entry c.requires (λ x e. sym c.in-None.is ∙ c.blocker.ensures.there _ x (lined _ _ _ _ _ _ _ _ c.self.invariant) e))
