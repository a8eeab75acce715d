-- The token at a place.
use Rattle.std.proofs.Common.{get_or}
use Rattle.std.proofs.lemmas.List.{drop_more}
use Rattle.ddl_pieces.proofs.Common.{◌≡◌, ℕ, ◌+◌, ◌<◌, List, ◌∷◌, length, drop, Lexeme, a_literal}

-- the token at a place before the end, and those behind it
pub token_here : (ts : List Lexeme) (at : ℕ) → at < length ts → drop at ts ≡ get_or ts at a_literal ∷ drop (at + 1) ts
token_here ts at low = drop_more ts at a_literal low
