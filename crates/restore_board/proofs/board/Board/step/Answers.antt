use Rattle.std.proofs.Common.{is_none, refl, ap, ◌∙◌}
use Rattle.restore_board.specs.Standing.{state}
use Rattle.restore_board.proofs.Answering.{step-taken}
use Rattle.restore_board.proofs.Told.{same-lined}
use Rattle.restore_board.proofs.board.Board.step.Goals as goal

pub run_entry-requires : goal.run_entry-requires
run_entry-requires c =
    let s = state c.args.self.now in
    let are = same-lined _ _ _ _ _ _ _ _ c.self.invariant _ c.self.view_is in
    record {
      runs = c.entry_of.ensures.free s.entries are ∙ ap is_none c.in-Some.is;
      place = c.entry_of.ensures.place s.entries c.in-Some.entry are c.in-Some.is;
    }

pub returns-in-Ok : goal.returns-in-Ok
returns-in-Ok c =
    let are = same-lined _ _ _ _ _ _ _ _ c.self.invariant _ c.self.view_is in
    let busy = c.entry_of.ensures.free (state c.args.self.now).entries are ∙ ap is_none c.in-Some.is in
    step-taken c.args.worker c.args.self.now c.run_entry.new.self c.answer.result busy c.in-Ok.ensures.ran c.answer.ensures

pub returns-in-Err : goal.returns-in-Err
returns-in-Err c =
    let are = same-lined _ _ _ _ _ _ _ _ c.self.invariant _ c.self.view_is in
    (c.entry_of.ensures.free (state c.args.self.now).entries are ∙ ap is_none c.in-Some.is, c.in-Err.ensures.err)

pub returns-in-None : goal.returns-in-None
returns-in-None c =
    let are = same-lined _ _ _ _ _ _ _ _ c.self.invariant _ c.self.view_is in
    (c.entry_of.ensures.free (state c.args.self.now).entries are ∙ ap is_none c.in-None.is, refl)
