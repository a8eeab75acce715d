-- What a search that goes along a text keeps.
use Rattle.std.proofs.Common.{◌≡◌, ℕ, ◌≤◌, Option}

-- the answer from here on is the answer that is wanted, and the place has not gone back, nor past the end
pub record IsAlong (here wanted : Option ℕ) (start at end : ℕ) : Type 0 where
  pub same : here ≡ wanted
  pub low : start ≤ at
  pub high : at ≤ end
