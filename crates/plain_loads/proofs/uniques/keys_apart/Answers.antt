-- The keys are known to differ at this place.
use Rattle.plain_loads.proofs.uniques.keys_apart.Goals as goal

pub returns-then-is_place : goal.returns-then-is_place
returns-then-is_place c = λ yes. rw (c.is_place.ensures c.if-is_place.true) at c.requires
