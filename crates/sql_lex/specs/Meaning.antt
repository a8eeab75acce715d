-- What a token stands for: a name, the text of a literal, a key word.
-- A bare word as a name has A to Z made small. Between quotes a doubled quote is one.
use Rattle.std.specs.Prelude.{ℕ, ◌-◌, Bool, true, false, ◌&&◌, not, ◌==◌, List, [], ◌∷◌, length, map, take, drop, slice_range, Option, Some, None, if◌then◌else◌}
use Rattle.std.specs.Char.{to_ascii_lowercase}
use Rattle.std.specs.Str.{str_eq_ignore_ascii_case}
use Rattle.sql_lex.specs.declared.token.TokenKind.{TokenKind}
use Rattle.sql_lex.specs.declared.token.TokenKind.TheVariants.{Word, QuotedName, Literal, Number, Sign, MetaLine}
use Rattle.sql_lex.specs.declared.token.Token.{Token}
use Rattle.sql_lex.specs.Bytes.{next_is}

-- the bytes of a token of a text
unfoldable pub spelling : List ℕ → Token → List ℕ
spelling text t = slice_range text t.start t.end

-- without the first byte and the last
unfoldable pub inside : List ℕ → List ℕ
inside word = take (length word - 2) (drop 1 word)

abbrev pub unless : Bool → ℕ → List ℕ → List ℕ
unless true b rest = rest
unless false b rest = b ∷ rest

-- without the second of two quotes; `second` says that the byte before is the first of two
unfoldable pub undoubled : ℕ → Bool → List ℕ → List ℕ
undoubled q second [] = []
undoubled q second (b ∷ rest) = unless (second && b == q) b (undoubled q (not second && b == q) rest)

-- the name that a token of this kind and spelling stands for
unfoldable pub name_of : TokenKind → List ℕ → Option (List ℕ)
name_of Word word = Some (map to_ascii_lowercase word)
name_of QuotedName word = Some (undoubled 34 false (inside word))
name_of Literal word = None
name_of Number word = None
name_of (Sign b) word = None
name_of MetaLine word = None

-- the text of a literal that begins with its quote, and so has no escapes
abbrev pub plain_of : List ℕ → Option (List ℕ)
plain_of word = if next_is (λ b. b == 39) word then Some (undoubled 39 false (inside word)) else None

-- the text of a literal, if it has no escapes
unfoldable pub literal_of : TokenKind → List ℕ → Option (List ℕ)
literal_of Literal word = plain_of word
literal_of Word word = None
literal_of QuotedName word = None
literal_of Number word = None
literal_of (Sign b) word = None
literal_of MetaLine word = None

-- whether a token is this key word, in small letters or not; a quoted name is none
unfoldable pub is_keyword_of : TokenKind → List ℕ → List ℕ → Bool
is_keyword_of Word word key = str_eq_ignore_ascii_case word key
is_keyword_of QuotedName word key = false
is_keyword_of Literal word key = false
is_keyword_of Number word key = false
is_keyword_of (Sign b) word key = false
is_keyword_of MetaLine word key = false
