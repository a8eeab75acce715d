-- The key is new, or null.
use Rattle.std.proofs.Common.{◌∷◌}
use Rattle.plain_rows.proofs.KeySteps.{new_key}
use Rattle.plain_rows.proofs.keys.rise.Goals as goal

pub returns-in-Some : goal.returns-in-Some
returns-in-Some c = λ yes known more are. (
  c.in-Some.key.now ∷ known,
  c.rise_to.ensures.risen yes known are,
  λ rest. rw c.in-Some.is (new_key c.in-Some.key.now known more (c.rise_to.ensures.new yes known are) rest),
)

pub returns-in-None : goal.returns-in-None
returns-in-None c = λ yes known more are. (known, are, λ rest. rw c.in-None.is rest)
