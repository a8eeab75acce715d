-- Places that tie, and numbers.
use Rattle.std.proofs.Common.{◌≡◌, ℕ, pos}
use Rattle.std.specs.declared.cmp.Ordering.{Ordering}
use Rattle.std.specs.declared.cmp.Ordering.TheVariants.{Less, Equal, Greater}
use Rattle.std.specs.Ordering.{nat_cmp, int_cmp, ordering_then}
use Rattle.std.specs.FinMap.{IsAntisymmetric, nat_cmp-IsAntisymmetric, int_cmp-IsAntisymmetric}
use Rattle.std.proofs.Common.{refl}
use Rattle.cat_book.specs.Rules.{place_cmp}

both_tie : (o p : Ordering) → ordering_then o p ≡ Equal → (o ≡ Equal) × (p ≡ Equal)
both_tie Less p e = cc
both_tie Equal p e = (refl, e)
both_tie Greater p e = cc

pub place_cmp-IsAntisymmetric : IsAntisymmetric place_cmp
place_cmp-IsAntisymmetric a b e =
    let both = both_tie (nat_cmp a.0 b.0) (int_cmp a.1 b.1) e in
    let oids = nat_cmp-IsAntisymmetric a.0 b.0 both.0 in
    let numbers = int_cmp-IsAntisymmetric a.1 b.1 both.1 in
    λ i. (oids i, numbers i)

pub pos_back : (m n : ℕ) → pos m ≡ pos n → m ≡ n
pos_back m n e = cc
