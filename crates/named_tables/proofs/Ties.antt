-- Keys that tie.
use Rattle.std.proofs.Common.{◌≡◌, true, refl}
use Rattle.std.specs.declared.cmp.Ordering.{Ordering}
use Rattle.std.specs.Ordering.{eq_by_cmp}
use Rattle.std.specs.FinMap.{IsAntisymmetric}
use Rattle.cat_sound.proofs.Maps.{equal_of}

pub tie : {K : Type 0} {R : K → K → Ordering} → IsAntisymmetric R → (a b : K) → eq_by_cmp R a b ≡ true → a ≡ b
tie {R = R} exact a b e = equal_of exact a b (R a b) refl e
