use Rattle.restore_board.specs.declared.answer.StepAnswer.TheVariants.{Done, Idle, Memory, More}
use Rattle.restore_board.proofs.Later.{later-step, less-step}
use Rattle.restore_board.proofs.board.Board.step_one.Goals as goal

pub returns-in-Memory : goal.returns-in-Memory
returns-in-Memory c = record { later = later-step c.args.worker _ _ Memory c.in-Memory.ensures; nearer = tt }

pub returns-in-More : goal.returns-in-More
returns-in-More c = record {
  later = later-step c.args.worker _ _ More c.in-More.ensures;
  nearer = less-step c.args.worker _ _ More c.requires (λ e. cc) c.in-More.ensures;
}

pub returns-in-Done : goal.returns-in-Done
returns-in-Done c = record {
  later = later-step c.args.worker _ _ Done c.in-Done.ensures;
  nearer = less-step c.args.worker _ _ Done c.requires (λ e. cc) c.in-Done.ensures;
}

pub returns-in-Idle : goal.returns-in-Idle
returns-in-Idle c = record {
  later = later-step c.args.worker _ _ Idle c.in-Idle.ensures;
  nearer = less-step c.args.worker _ _ Idle c.requires (λ e. cc) c.in-Idle.ensures;
}
