-- The range that each part of a moment keeps, by which an archive's head can hold it.
use Rattle.std.specs.Prelude.{ℤ, pos, ◌<ℤ◌, neg_ℤ}

-- strictly between -2^32 and 2^32
abbrev pub IsPart : ℤ → Type 0
IsPart part = (neg_ℤ (pos 4294967296) <ℤ part) × (part <ℤ pos 4294967296)
