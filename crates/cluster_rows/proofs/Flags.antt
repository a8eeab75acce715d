-- Flags: `==` decides whether they are the same.
use Rattle.std.proofs.Common.{◌≡◌, Bool, true, false, refl, sym}
use Rattle.std.specs.Bool.{Decides, beq}

pub same_bool : (a b : Bool) → Decides (beq a b) (a ≡ b)
same_bool true true = (λ _. refl, λ _. refl)
same_bool true false = (λ e. sym e, λ e. sym e)
same_bool false true = (λ e. e, λ e. e)
same_bool false false = (λ _. refl, λ _. refl)
