-- What a board answers to a step.
use Rattle.std.proofs.Common.{◌≡◌, ℕ, Bool, true, false, cond, Some}
use Rattle.restore_core.specs.declared.event.Event.TheVariants as event
use Rattle.restore_core.specs.Machine.{is_free}
use Rattle.restore_board.specs.declared.answer.StepAnswer.{StepAnswer}
use Rattle.restore_board.specs.declared.answer.StepAnswer.TheVariants.{More, Done, Idle, Memory}
use Rattle.restore_board.specs.Answers.{Steps, answer_at}
use Rattle.restore_board.specs.Standing.{Standing, state, with_event}

not-idle : (b : Bool) → Idle ≡ cond b Done More → ⊥
not-idle true e = cc
not-idle false e = cc

not-memory : (b : Bool) → Memory ≡ cond b Done More → ⊥
not-memory true e = cc
not-memory false e = cc

pub step-taken : (worker : ℕ) (old new : Standing) (answer : StepAnswer) → is_free worker (state old).entries ≡ false → new ≡ with_event (Some (event.Step worker)) old → answer ≡ answer_at worker new → Steps worker old new answer
step-taken worker old new More busy is e = (busy, is, e)
step-taken worker old new Done busy is e = (busy, is, e)
step-taken worker old new Idle busy is e = absurd (not-idle (is_free worker (state new).entries) e)
step-taken worker old new Memory busy is e = absurd (not-memory (is_free worker (state new).entries) e)
