-- One token that stands for a value: its laws, and how it is read.
use Rattle.std.proofs.lemmas.List.{drop_more}
use Rattle.std.proofs.Common.{get_or}
use Rattle.ddl_grammar_laws.proofs.Common.{a_word, ◌≡◌, ℕ, ◌+◌, ◌<◌, List, [], ◌∷◌, length, drop, Option, Some, ap, ◌∙◌, arith, Lexeme, seen_at, Lawful, IsTooLong, shortened, one_laws, name, right_first, wanted_first, first, by_first}
use Rattle.ddl_grammar.specs.Values.{told}

pub by_first_laws : {A : Type 0} (value : List Lexeme → Option A) → ((t : Lexeme) → IsTooLong t → value (shortened t ∷ []) ≡ value (t ∷ [])) → (t : Lexeme) (v : A) → value (t ∷ []) ≡ Some v → Lawful (by_first value)
by_first_laws value alike t v e = one_laws (λ t. told (value (t ∷ []))) (record { long = λ x l. absurd (grind arith); none = λ x long l. ap told (alike x long) ∙ l }) t v (ap told e)

-- the token at a place before the end
pub token_here : (ts : List Lexeme) (at : ℕ) → at < length ts → drop at ts ≡ get_or ts at (a_word []) ∷ drop (at + 1) ts
token_here ts at low = drop_more ts at (a_word []) low

pub first_read : (ts : List Lexeme) → first.read ts ≡ seen_at (λ n. (n, wanted_first ts)) (name.read ts)
unfolding wanted_first right_first
first_read ts = grind arith
