-- The first token behind a place, said by relations: what stands between, what the token is, and why there is none.
-- It is the first since what stands before it is white space and comments alone.
use Rattle.std.specs.Prelude.{◌≡◌, ℕ, ◌+◌, ◌<◌, true, false, ◌⊎◌, List, ◌++◌, length, drop, Option, Some, None, Result, Ok, Err}
use Rattle.std.specs.Str.{is_utf8}
use Rattle.sql_lex.specs.declared.fault.LexFault.{LexFault}
use Rattle.sql_lex.specs.declared.fault.LexFault.TheVariants.{Unclosed, BadByte}
use Rattle.sql_lex.specs.declared.token.TokenKind.{TokenKind}
use Rattle.sql_lex.specs.declared.token.Token.{Token}
use Rattle.sql_lex.specs.Pieces.{begins_line}
use Rattle.sql_lex.specs.Spelling.{IsPiece, opens_here}

-- from one place up to another stands one piece of this kind, or white space or a comment
pub record PieceIn (text : List ℕ) (kind : Option TokenKind) (at end : ℕ) : Type 0 where
  pub word : List ℕ
  pub rest : List ℕ
  pub bytes : drop at text ≡ word ++ rest
  pub ends : end ≡ at + length word
  pub is : IsPiece (begins_line text at) kind word rest

-- the same, and it is UTF-8
pub record SoundIn (text : List ℕ) (kind : Option TokenKind) (at end : ℕ) : Type 0 where
  pub piece : PieceIn text kind at end
  pub utf8 : is_utf8 piece.word ≡ true

-- from one place up to another stand white space and comments alone
pub data Between (text : List ℕ) : ℕ → ℕ → Type 0 where
  nothing : (at : ℕ) → Between text at at
  gap : (at end to : ℕ) → SoundIn text None at end → Between text end to → Between text at to

-- no piece stands at a place
abbrev pub Nothing : List ℕ → ℕ → Type 0
Nothing text at = (kind : Option TokenKind) (end : ℕ) → ¬ PieceIn text kind at end

-- Why a text has no token at a place. What opens there has no end, or no piece begins there, or one begins that isn't UTF-8.
abbrev pub Fails : List ℕ → LexFault → Type 0
Fails text (Unclosed at) = (at < length text) × (opens_here (drop at text) ≡ true) × Nothing text at
Fails text (BadByte at) = (at < length text)
    × (((opens_here (drop at text) ≡ false) × Nothing text at) ⊎ ((kind : Option TokenKind) × (end : ℕ) × (piece : PieceIn text kind at end) × (is_utf8 piece.word ≡ false)))

-- what is due at or behind a place
abbrev pub IsNext : List ℕ → ℕ → Result (Option Token) LexFault → Type 0
IsNext text at (Ok None) = Between text at (length text)
IsNext text at (Ok (Some t)) = Between text at t.start × (t.start < length text) × SoundIn text (Some t.kind) t.start t.end
IsNext text at (Err (Unclosed place)) = Between text at place × Fails text (Unclosed place)
IsNext text at (Err (BadByte place)) = Between text at place × Fails text (BadByte place)
