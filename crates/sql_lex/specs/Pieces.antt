-- What stands at a place of a text: a token, white space or a comment, up to its end, or a fault.
-- The first byte, and for a comment and a literal with escapes the next one, says which it is.
use Rattle.std.specs.Prelude.{ℕ, ◌+◌, ◌-◌, Bool, true, false, ◌||◌, ◌&&◌, ◌==◌, List, slice_index, take, drop, Option, Some, None, Result, Ok, Err, if◌then◌else◌}
use Rattle.std.specs.Str.{is_utf8}
use Rattle.sql_lex.specs.declared.fault.LexFault.{LexFault}
use Rattle.sql_lex.specs.declared.fault.LexFault.TheVariants.{Unclosed, BadByte}
use Rattle.sql_lex.specs.declared.token.TokenKind.{TokenKind}
use Rattle.sql_lex.specs.declared.token.TokenKind.TheVariants.{Word, QuotedName, Literal, Number, Sign, MetaLine}
use Rattle.sql_lex.specs.declared.piece.Piece.{Piece}
use Rattle.sql_lex.specs.Bytes.{is_blank, is_digit, begins_word, in_word, is_sign, marks_escapes, in_line, next_is}
use Rattle.sql_lex.specs.Ends.{run_end, quote_end, escape_end, comment_end, number_end}

-- a place is a line's first where the text begins, or behind a line feed
unfoldable pub begins_line : List ℕ → ℕ → Bool
begins_line text at = at == 0 || slice_index text (at - 1) == 10

abbrev pub token : TokenKind → ℕ → Result Piece LexFault
token kind end = Ok (record { kind = Some kind; end = end })

-- white space or a comment
abbrev pub gap : ℕ → Result Piece LexFault
gap end = Ok (record { kind = None; end = end })

-- what was opened at a place must be closed
unfoldable pub closed : Option TokenKind → ℕ → Option ℕ → Result Piece LexFault
closed kind at None = Err (Unclosed at)
closed kind at (Some end) = Ok (record { kind = kind; end = end })

-- what begins at a place with the byte b, before the rest
unfoldable pub begun : Bool → ℕ → ℕ → List ℕ → Result Piece LexFault
begun at_line at b rest =
    if is_blank b then gap (run_end is_blank (at + 1) rest)
    else (if marks_escapes b && next_is (λ c. c == 39) rest then closed (Some Literal) at (escape_end false true (at + 2) (drop 1 rest))
    else (if begins_word b then token Word (run_end in_word (at + 1) rest)
    else (if is_digit b then token Number (number_end (at + 1) rest)
    else (if b == 34 then closed (Some QuotedName) at (quote_end 34 true (at + 1) rest)
    else (if b == 39 then closed (Some Literal) at (quote_end 39 true (at + 1) rest)
    else (if b == 45 && next_is (λ c. c == 45) rest then gap (run_end in_line (at + 1) rest)
    else (if b == 47 && next_is (λ c. c == 42) rest then closed None at (comment_end 1 0 (at + 2) (drop 1 rest))
    else (if b == 92 && at_line then token MetaLine (run_end in_line (at + 1) rest)
    else (if is_sign b then token (Sign b) (at + 1)
    else Err (BadByte at))))))))))

-- a token, and a comment, is UTF-8, or its first byte is bad
unfoldable pub in_utf8 : ℕ → List ℕ → Result Piece LexFault → Result Piece LexFault
in_utf8 at rest (Err fault) = Err fault
in_utf8 at rest (Ok piece) = if is_utf8 (take (piece.end - at) rest) then Ok piece else Err (BadByte at)

-- what stands at the place `at` of a text that doesn't end there
unfoldable pub piece_at : List ℕ → ℕ → Result Piece LexFault
piece_at text at =
    in_utf8 at (drop at text) (begun (begins_line text at) at (slice_index text at) (drop (at + 1) text))

-- the place of a fault
abbrev pub place_of : LexFault → ℕ
place_of (Unclosed at) = at
place_of (BadByte at) = at
