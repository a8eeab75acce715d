use Rattle.std.proofs.Common.{◌≡◌, ℕ, ◌<◌, ℤ, lit<, List, [], ◌∷◌, length, slice_index_or, pos, refl, arith, w64, to_z, of_z}
use Rattle.std.proofs.lemmas.Int.{ints, to_z-of_z}
use Rattle.dump_ports.proofs.moment.Moment.new.Goals as goal

-- a list of seven is its elements
seven : (xs : List ℤ) → length xs ≡ 7 → slice_index_or xs 0 (pos 0) ∷ slice_index_or xs 1 (pos 0) ∷ slice_index_or xs 2 (pos 0) ∷ slice_index_or xs 3 (pos 0) ∷ slice_index_or xs 4 (pos 0) ∷ slice_index_or xs 5 (pos 0) ∷ slice_index_or xs 6 (pos 0) ∷ [] ≡ xs
seven [] h = absurd (omega arith)
seven (a ∷ []) h = absurd (omega arith)
seven (a ∷ b ∷ []) h = absurd (omega arith)
seven (a ∷ b ∷ c ∷ []) h = absurd (omega arith)
seven (a ∷ b ∷ c ∷ d ∷ []) h = absurd (omega arith)
seven (a ∷ b ∷ c ∷ d ∷ e ∷ []) h = absurd (omega arith)
seven (a ∷ b ∷ c ∷ d ∷ e ∷ f ∷ []) h = absurd (omega arith)
seven (a ∷ b ∷ c ∷ d ∷ e ∷ f ∷ g ∷ []) h = refl
seven (a ∷ b ∷ c ∷ d ∷ e ∷ f ∷ g ∷ x ∷ xs) h = absurd (omega arith)

pub returns-clause-valid : goal.returns-clause-valid
returns-clause-valid c = (λ _ k d h. c.loop-part.invariant k d (omega arith), λ _. refl)

pub returns-clause-value : goal.returns-clause-value
returns-clause-value c =
    let parts = c.args.parts in
    let back : (k : ℕ) → k < 7 → to_z w64 (of_z w64 (slice_index_or parts k (pos 0))) ≡ slice_index_or parts k (pos 0) =
    λ k h. to_z-of_z w64 _ (let p = c.loop-part.invariant k (pos 0) (omega arith) in omega (arith, ints)) in
    rw (back 0 (lit< tt), back 1 (lit< tt), back 2 (lit< tt), back 3 (lit< tt), back 4 (lit< tt), back 5 (lit< tt), back 6 (lit< tt)) (seven parts (omega arith))
