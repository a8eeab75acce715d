-- One digit more of a number on a command line.
use Rattle.std.proofs.Common.{◌≡◌, ℕ, ◌+◌, ◌-◌, ◌*◌, ◌<◌, ◌≤◌, cond, true, false, List, [], ◌∷◌, Some, None, length, drop, get_or, refl, arith}
use Rattle.std.proofs.lemmas.List.{at_drop_more, at_drop_all}
use Rattle.std.specs.Char.{is_ascii_digit}
use Rattle.std.proofs.lemmas.Bool.Decides.{nat_tests}
use Rattle.command_line.specs.Values.{number_from, at_most}

pub digit_more : (n : ℕ) (digits : List ℕ) (i : ℕ) → i < length digits
    → number_from n (drop i digits) ≡ cond (is_ascii_digit (get_or digits i 0)) (number_from (n * 10 + (get_or digits i 0 - 48)) (drop (i + 1) digits)) None
digit_more n digits i h = at_drop_more (number_from n) digits i 0 h

pub digits_none : (n : ℕ) (digits : List ℕ) (i : ℕ) → length digits ≤ i → number_from n (drop i digits) ≡ Some n
digits_none n digits i h = at_drop_all (number_from n) digits i h

larger : (most n : ℕ) → most < n → at_most most (Some n) ≡ None
larger most n h = grind (arith, nat_tests)

-- what is too large stays so
pub too_large : (most n : ℕ) (digits : List ℕ) → most < n → at_most most (number_from n digits) ≡ None
too_large most n [] h = larger most n h
too_large most n (b ∷ digits) h = elim (is_ascii_digit b) as (λ d. at_most most (cond d (number_from (n * 10 + (b - 48)) digits) None) ≡ None)
    [ true ↦ too_large most (n * 10 + (b - 48)) digits (omega arith) | false ↦ refl ]

pub small_enough : (most n : ℕ) → n ≤ most → at_most most (Some n) ≡ Some n
small_enough most n h = grind (arith, nat_tests)
