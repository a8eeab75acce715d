-- Columns of tables before others, and numbers that rise.
use Rattle.std.proofs.Common.{◌≡◌, inl, inr, ℕ, ◌<◌, pos, Bool, true, false, not, List, [], ◌∷◌, ◌++◌, refl, ap, ◌∙◌, arith}
use Rattle.std.proofs.lemmas.Bool.Decides.{nat_tests}
use Rattle.std.specs.List.{filter}
use Rattle.std.specs.Ordering.{int_cmp, is_le}
use Rattle.std.specs.declared.cmp.Ordering.TheVariants.{Less}
use Rattle.cat_model.specs.Values.{Named}
use Rattle.text_tables.specs.Columns.{is_column_number}
use Rattle.cat_sound.proofs.Lists.{IsIn}
use Rattle.column_numbers.specs.Numbers.{NumbersOf, number_of}
use Rattle.column_numbers.specs.Rising.{AreRising}
use Rattle.entry_ids.specs.Oids.{AreNumbers}

module _ {A : Type 0} (p : A → Bool) where
  -- none of the others pass
  none_pass : (ys : List A) → filter p (filter (λ y. not (p y)) ys) ≡ []
  none_pass [] = refl
  none_pass (y ∷ ys) = by (p y) refl (none_pass ys)
    where
      by : (b : Bool) → p y ≡ b → filter p (filter (λ y. not (p y)) ys) ≡ [] → filter p (filter (λ y. not (p y)) (y ∷ ys)) ≡ []
      by true is more = rw is more
      by false is more = rw (is, is) more

  pub first_alone : (xs ys : List A) → ((x : A) → IsIn x xs → p x ≡ true) → filter p (xs ++ filter (λ y. not (p y)) ys) ≡ xs
  first_alone [] ys all = none_pass ys
  first_alone (x ∷ xs) ys all = rw (all x (inl refl)) (ap (λ (zs : List A). x ∷ zs) (first_alone xs ys (λ z among. all z (inr among))))

  once_more : (ys : List A) → filter (λ y. not (p y)) (filter (λ y. not (p y)) ys) ≡ filter (λ y. not (p y)) ys
  once_more [] = refl
  once_more (y ∷ ys) = by (p y) refl (once_more ys)
    where
      by : (b : Bool) → p y ≡ b → filter (λ y. not (p y)) (filter (λ y. not (p y)) ys) ≡ filter (λ y. not (p y)) ys → filter (λ y. not (p y)) (filter (λ y. not (p y)) (y ∷ ys)) ≡ filter (λ y. not (p y)) (y ∷ ys)
      by true is more = rw is more
      by false is more = rw (is, is) (ap (λ (zs : List A). y ∷ zs) more)

  pub others_alone : (xs ys : List A) → ((x : A) → IsIn x xs → p x ≡ true) → filter (λ y. not (p y)) (xs ++ filter (λ y. not (p y)) ys) ≡ filter (λ y. not (p y)) ys
  others_alone [] ys all = once_more ys
  others_alone (x ∷ xs) ys all = rw (all x (inl refl)) (others_alone xs ys (λ z among. all z (inr among)))

below : (m n : ℕ) → m < n → int_cmp (pos m) (pos n) ≡ Less
below m n less = grind (arith, nat_tests)

from_one : (n : ℕ) → 0 < n → is_le (int_cmp (pos 1) (pos n)) ≡ true
from_one n some = grind (arith, nat_tests)

pub are_numbers : (named : Named) (numbers : NumbersOf) → AreRising named (number_of numbers) → AreNumbers named (number_of numbers)
are_numbers named numbers up = record {
  rises = λ q columns i j c d there less at_i at_j.
      let it = up.rises q columns i j c d there less at_i at_j in
      (λ k. int_cmp (it.2 k) (it.3 k)) ∙ below it.0 it.1 it.4;
  from_one = λ q columns i c there at.
      let it = up.from_one q columns i c there at in
      ap is_column_number it.1 ∙ from_one it.0 it.2;
}
