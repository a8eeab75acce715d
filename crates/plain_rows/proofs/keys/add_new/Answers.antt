-- The key is new, or null.
use Rattle.std.proofs.Common.{◌∷◌}
use Rattle.plain_rows.proofs.KeySteps.{new_key}
use Rattle.plain_rows.proofs.keys.add_new.Goals as goal

pub returns-in_ok-add_new_key-in-Some : goal.returns-in_ok-add_new_key-in-Some
returns-in_ok-add_new_key-in-Some c = λ yes known more are. (
  c.in-Some.key.now ∷ known,
  c.in_ok-add_new_key-in-Some.ensures.added known are,
  λ rest. rw c.in-Some.is (new_key c.in-Some.key.now known more (c.in_ok-add_new_key-in-Some.ensures.new yes known are) rest),
)

pub returns-in-None : goal.returns-in-None
returns-in-None c = λ yes known more are. (known, are, λ rest. rw c.in-None.is rest)
