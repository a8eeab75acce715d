-- What is written is read back as one token.
-- For what follows that doesn't go on with the token, wherever in a text it stands.
use Rattle.std.specs.Prelude.{◌≡◌, ℕ, ◌+◌, ◌&&◌, not, List, length, Some, Ok, if◌then◌else◌}
use Rattle.sql_lex.specs.declared.token.TokenKind.{TokenKind}
use Rattle.sql_lex.specs.declared.token.TokenKind.TheVariants.{Word, QuotedName}
use Rattle.sql_lex.specs.declared.token.Token.{Token}
use Rattle.sql_lex.specs.Next.{next_token_of}
use Rattle.sql_lex.specs.Meaning.{spelling}
use Rattle.sql_lex.specs.Reserved.{is_reserved}
use Rattle.sql_lex.specs.Written.{is_bare}

-- the token of this kind whose bytes stand at a place
abbrev pub token_at : TokenKind → ℕ → List ℕ → Token
token_at kind at word = record { kind = kind; start = at; end = at + length word }

-- at a place of a text a token of this kind is read, with these bytes
pub record IsTokenAt (text : List ℕ) (at : ℕ) (kind : TokenKind) (word : List ℕ) : Type 0 where
  pub found : next_token_of text at ≡ Ok (Some (token_at kind at word))
  pub spelled : spelling text (token_at kind at word) ≡ word

-- how a name is read that was written
unfoldable pub written_kind : List ℕ → TokenKind
written_kind name = if is_bare name && not (is_reserved name) then Word else QuotedName
