-- Tests that hold, taken apart and put together.
use Rattle.std.proofs.Common.{◌≡◌, ℕ, Bool, true, false, not, ◌&&◌, ◌||◌, ◌==◌, refl, sym, ◌∙◌, true≢false}
use Rattle.std.proofs.lemmas.Bool.{eqb-true, eq-eqb}

pub and_first : (a b : Bool) → a && b ≡ true → a ≡ true
and_first true b h = refl
and_first false b h = h

pub and_second : (a b : Bool) → a && b ≡ true → b ≡ true
and_second true b h = h
and_second false b h = absurd (true≢false (sym h))

pub and_both : (a b : Bool) → a ≡ true → b ≡ true → a && b ≡ true
and_both true b h g = g
and_both false b h g = h

pub or_first_false : (a b : Bool) → a || b ≡ false → a ≡ false
or_first_false true b h = h
or_first_false false b h = refl

pub or_second_false : (a b : Bool) → a || b ≡ false → b ≡ false
or_second_false true b h = absurd (true≢false h)
or_second_false false b h = h

pub or_false : (a b : Bool) → a ≡ false → b ≡ false → a || b ≡ false
or_false true b h g = h
or_false false b h g = g

-- one of two tests holds, and the first doesn't
pub or_other : (a b : Bool) → a ≡ false → a || b ≡ true → b ≡ true
or_other true b h g = absurd (true≢false h)
or_other false b h g = g

pub or_by_second : (a b : Bool) → b ≡ true → a || b ≡ true
or_by_second true b h = refl
or_by_second false b h = h

pub or_by_first : (a b : Bool) → a ≡ true → a || b ≡ true
or_by_first true b h = refl
or_by_first false b h = absurd (true≢false (sym h))

pub not_true : (a : Bool) → not a ≡ true → a ≡ false
not_true true h = absurd (true≢false (sym h))
not_true false h = refl

pub not_false : (a : Bool) → a ≡ false → not a ≡ true
not_false true h = absurd (true≢false h)
not_false false h = refl

pub both_ways : (a : Bool) → a ≡ true → a ≡ false → ⊥
both_ways a h g = true≢false (sym h ∙ g)

pub same_number : (a b : ℕ) → (a == b) ≡ true → a ≡ b
same_number a b h = eqb-true a b h

pub number_itself : (a : ℕ) → (a == a) ≡ true
number_itself a = eq-eqb a a refl
