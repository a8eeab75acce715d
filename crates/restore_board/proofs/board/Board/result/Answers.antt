use Rattle.std.proofs.Common.{◌≡◌, ℕ, ◌≤◌, length, List, ap, sym, subst, ◌∙◌}
use Rattle.std.specs.List.{filter_map}
use Rattle.std.specs.Vec.{vec_capacity}
use Rattle.restore_core.specs.declared.phase.Phase.{Phase}
use Rattle.restore_core.specs.Phases.{status_in}
use Rattle.restore_board.specs.Standing.{Standing}
use Rattle.restore_board.proofs.Resulting.{result-is, result-serial}
use Rattle.restore_board.proofs.board.Board.result.Goals as goal

pub statuses_of-requires-clause-room : goal.statuses_of-requires-clause-room
statuses_of-requires-clause-room c =
    let many : length c.into_phases.result.items ≡ length c.self.inside.queue.plan = ap length c.into_phases.ensures ∙ c.self.invariant.many_phases in
    subst (λ (n : ℕ). n ≤ vec_capacity c.self.inside.statuses) (sym many) c.self.invariant.has_statuses

pub returns-clause-state : goal.returns-clause-state
returns-clause-state c =
    result-is _ _ _ _ _ _ _ _ c.self.invariant _ c.self.view_is c.statuses_of.result.items c.into_all.result.items
    (c.statuses_of.ensures ∙ ap (λ (fs : List Phase). filter_map status_in fs) c.into_phases.ensures)
    c.into_all.ensures

pub returns-clause-role : goal.returns-clause-role
returns-clause-role c = c.self.invariant.same_role ∙ ap (λ (s : Standing). s.boot) c.self.view_is

pub returns-clause-serial : goal.returns-clause-serial
returns-clause-serial c =
    result-serial _ _ _ _ _ _ _ _ c.self.invariant _ c.self.view_is c.statuses_of.result.items c.into_all.result.items
    (c.statuses_of.ensures ∙ ap (λ (fs : List Phase). filter_map status_in fs) c.into_phases.ensures)
    c.into_all.ensures c.any_schedule_is_serial.ensures
