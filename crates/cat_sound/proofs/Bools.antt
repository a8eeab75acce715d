-- Tests that come out true or false.
use Rattle.std.proofs.Common.{◌≡◌, Bool, true, false, not, refl}

pub not_true : (b : Bool) → not b ≡ true → b ≡ false
not_true true e = cc
not_true false e = refl
