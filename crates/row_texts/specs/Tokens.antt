-- All tokens of a text that is one statement, or a part of one: those of the whole text.
-- There are none of a text that has a fault, nor of one with a token behind a semicolon.
use Rattle.std.specs.Prelude.{ℕ, Bool, true, false, List, [], ◌∷◌, Option, Some, None, Result, Ok, Err, if◌then◌else◌}
use Rattle.sql_lex.specs.declared.token.Token.{Token}
use Rattle.sql_lex.specs.declared.fault.LexFault.{LexFault}
use Rattle.sql_lex.specs.Next.{next_token_of, tokens_of}
use Rattle.cat_model.specs.Values.{Bytes}
use Rattle.ddl_part_laws.specs.pieces.Piece.{Piece}
use Rattle.ddl_part_laws.specs.Lexemes.{Lexeme, is_sign_kind}
use Rattle.ddl_part_laws.specs.Pieces.{lexemes}

-- each token with the end of the one before it
abbrev pub pieces_from : ℕ → List Token → List Piece
pieces_from at [] = []
pieces_from at (t ∷ ts) = record { from = at; token = t } ∷ pieces_from t.end ts

abbrev pub are_none : List Token → Bool
are_none [] = true
are_none (t ∷ ts) = false

-- behind a semicolon stands no token
abbrev pub is_ended_once : List Token → Bool
is_ended_once [] = true
is_ended_once (t ∷ ts) = if is_sign_kind 59 t.kind then are_none ts else is_ended_once ts

abbrev pub tokens_behind : Bytes → ℕ → Result (List Token) LexFault → Option (List Lexeme)
tokens_behind text at (Ok ts) = if is_ended_once ts then Some (lexemes text (pieces_from at ts)) else None
tokens_behind text at (Err fault) = None

-- all tokens of a text
unfoldable pub all_tokens : Bytes → Option (List Lexeme)
all_tokens text = tokens_behind text 0 (tokens_of text)

-- ---- behind a place

abbrev pub is_no_token : Result (Option Token) LexFault → Bool
is_no_token (Ok None) = true
is_no_token _ = false

-- whether blanks and comments alone stand behind a place
abbrev pub is_end : Bytes → ℕ → Bool
is_end text at = is_no_token (next_token_of text at)
