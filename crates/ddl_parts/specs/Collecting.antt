-- The tokens of a statement: those from a place up to the first semicolon.
-- Where there is none, they go up to the end of the text or up to its first fault.
use Rattle.std.specs.Prelude.{ℕ, zero, suc, List, [], ◌∷◌, length, ◌+◌, Option, Some, None, Result, Ok, Err, if◌then◌else◌}
use Rattle.sql_lex.specs.{declared.token.Token.Token, declared.fault.LexFault.LexFault, Next.next_token_of}
use Rattle.ddl_parts.specs.{declared.pieces.Piece.Piece, Lexemes.is_sign_kind}

-- the tokens, the end of the last, and the fault behind them, if there is one
pub record Collected : Type 0 where
  pub pieces : List Piece
  pub end : ℕ
  pub fault : Option LexFault

abbrev pub preceded : Piece → Collected → Collected
preceded p c = record c { pieces = p ∷ c.pieces }

abbrev pub nothing_more : ℕ → Option LexFault → Collected
nothing_more at fault = record { pieces = []; end = at; fault = fault }

-- how the tokens go on, by the next; `later` says those behind a place
abbrev pub collected_by : (ℕ → Collected) → ℕ → Result (Option Token) LexFault → Collected
collected_by later at (Err fault) = nothing_more at (Some fault)
collected_by later at (Ok None) = nothing_more at None
collected_by later at (Ok (Some t)) =
    preceded (record { from = at; token = t }) (if is_sign_kind 59 t.kind then nothing_more t.end None else later t.end)

-- at most n tokens behind a place
unfoldable pub collected_within : ℕ → List ℕ → ℕ → Collected
collected_within zero text at = nothing_more at None
collected_within (suc n) text at = collected_by (collected_within n text) at (next_token_of text at)

-- the tokens of the statement at a place; each has a byte at least
unfoldable pub collected : List ℕ → ℕ → Collected
collected text at = collected_within (length text + 1) text at
