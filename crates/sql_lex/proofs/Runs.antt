-- Runs of bytes of one class.
use Rattle.std.proofs.Common.{◌≡◌, ℕ, ◌+◌, ◌-◌, Bool, List, length, get_or, drop, take, Option, Some, None, sym, ap, ◌∙◌, inl, inr, arith}
use Rattle.std.specs.Prelude.{unwrap_or}
use Rattle.std.specs.List.{prefix_len, position_or_len}
use Rattle.std.proofs.lemmas.Bool.{cases_Bool}
use Rattle.std.proofs.lemmas.List.Sums.{position_or_len_is}
use Rattle.memchr.specs.Find.{IsFirstByte, is_byte}
use Rattle.std.proofs.lemmas.List.{take_rest}
use Rattle.sql_lex.specs.Bytes.{in_line}
use Rattle.sql_lex.specs.Ends.{run_end}

-- what a search for a byte finds
pub first_byte : (test : ℕ → Bool) (xs : List ℕ) (r : Option ℕ) → IsFirstByte test xs r → unwrap_or r (length xs) ≡ position_or_len test xs
first_byte test xs None h = sym (position_or_len_is test xs (length xs) 0 (omega arith) (λ k lt. elim (cases_Bool (test (get_or xs k 0))) [ inl is ↦ absurd (h k (omega arith) lt is) | inr isnt ↦ isnt ]) (λ lt. absurd (omega arith)))
first_byte test xs (Some k) h = sym (position_or_len_is test xs k 0 (let high = h.0.high in omega arith) (λ j lt. elim (cases_Bool (test (get_or xs j 0))) [ inl is ↦ absurd (h.0.before j (omega arith) lt is) | inr isnt ↦ isnt ]) (λ lt. h.1))

-- the first line feed ends the line
pub line_len : (xs : List ℕ) (r : Option ℕ) → IsFirstByte (is_byte 10) xs r → unwrap_or r (length xs) ≡ prefix_len in_line xs
unfolding in_line
line_len xs r h = first_byte (is_byte 10) xs r h

-- the run at a place, by its length in what is left of the text
pub run_of_rest : (p : ℕ → Bool) (xs : List ℕ) (at n : ℕ) → n ≡ prefix_len p (take (length xs - at) (drop at xs)) → at + n ≡ run_end p at (drop at xs)
unfolding run_end
run_of_rest p xs at n e = ap (λ k. at + k) (e ∙ ap (prefix_len p) (take_rest xs at))
