-- The dump ids of the entries that were refused or skipped, as a set.
use Rattle.std.specs.Prelude.{◌≡◌, ℕ}
use Rattle.std.specs.Ordering.{nat_cmp}
use Rattle.std.specs.BTreeSet.{BTreeSet, contains}
use Rattle.restore_plan.specs.Serial.{Ended, is_blocked}

-- the set holds exactly those of the entries that have ended which were refused or skipped
abbrev pub AreBlocked : BTreeSet ℕ → Ended → Type 0
AreBlocked set ended = (id : ℕ) → contains nat_cmp set id ≡ is_blocked ended id
