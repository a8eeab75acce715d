-- What a board answers to a step of a worker.
use Rattle.std.specs.Prelude.{◌≡◌, ℕ, true, false, Some, if◌then◌else◌}
use Rattle.restore_core.specs.declared.event.Event.TheVariants as event
use Rattle.restore_core.specs.Machine.{is_free}
use Rattle.restore_board.specs.declared.answer.StepAnswer.{StepAnswer}
use Rattle.restore_board.specs.declared.answer.StepAnswer.TheVariants.{More, Done, Idle, Memory}
use Rattle.restore_board.specs.Standing.{Standing, state, with_event}

-- the worker's entry goes on, or it has ended and the worker runs none
abbrev pub answer_at : ℕ → Standing → StepAnswer
answer_at worker s = if is_free worker (state s).entries then Done else More

-- A worker that runs no entry is idle, and the board stays. Where it runs one the entry takes a step, and the answer says
-- whether it goes on; or memory ran out, and the board stays.
abbrev pub Steps : ℕ → Standing → Standing → StepAnswer → Type 0
Steps worker old new Idle = (is_free worker (state old).entries ≡ true) × (new ≡ old)
Steps worker old new Memory = (is_free worker (state old).entries ≡ false) × (new ≡ old)
Steps worker old new answer =
    (is_free worker (state old).entries ≡ false)
    × (new ≡ with_event (Some (event.Step worker)) old)
    × (answer ≡ answer_at worker new)
