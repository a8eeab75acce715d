-- What a search for a byte gives, in the words of the definitions.
use Rattle.std.proofs.Common.{◌≡◌, ℕ, not, eqb, List, length, Option, Some, None, arith, sym}
use Rattle.std.specs.List.{position_or_len}
use Rattle.std.specs.Option.{unwrap_or}
use Rattle.std.proofs.lemmas.Bool.{false_from_ne_true, not_from_true, not_from_false}
use Rattle.std.proofs.lemmas.List.Sums.{prefix_len_is}
use Rattle.memchr.specs.Find.{Nowhere, NoneBefore, Passes, is_byte, IsFirstByte}

module _ (byte : ℕ) (hay : List ℕ) where
  pub byte_found : (k : ℕ) → NoneBefore (Passes (is_byte byte) hay) 0 (length hay) k → Passes (is_byte byte) hay k → position_or_len (λ b. eqb b byte) hay ≡ k
  byte_found k first here =
      prefix_len_is (λ b. not (eqb b byte)) hay k 0 (omega (arith, first.high)) (λ j lt. not_from_false _ (false_from_ne_true _ (first.before j (omega arith) lt))) (λ _. not_from_true _ here)

  pub byte_absent : Nowhere (Passes (is_byte byte) hay) 0 (length hay) → position_or_len (λ b. eqb b byte) hay ≡ length hay
  byte_absent none =
      prefix_len_is (λ b. not (eqb b byte)) hay (length hay) 0 (omega arith) (λ j lt. not_from_false _ (false_from_ne_true _ (none j (omega arith) lt))) (λ lt. absurd (omega arith))

  pub place_or_end : (r : Option ℕ) → IsFirstByte (is_byte byte) hay r → unwrap_or r (length hay) ≡ position_or_len (λ b. eqb b byte) hay
  place_or_end None found = sym (byte_absent found)
  place_or_end (Some k) found = sym (byte_found k found.0 found.1)
