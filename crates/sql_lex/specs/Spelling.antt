-- Which bytes spell a token of each kind, and white space and comments.
-- Said of the bytes alone, apart from how a text is read.
use Rattle.std.specs.Prelude.{◌≡◌, ℕ, suc, ◌<◌, Bool, true, false, ◌||◌, ◌&&◌, ◌==◌, ◌⊎◌, List, [], ◌∷◌, ◌++◌, length, Option, Some, None}
use Rattle.std.specs.List.{list_all}
use Rattle.sql_lex.specs.declared.token.TokenKind.{TokenKind}
use Rattle.sql_lex.specs.declared.token.TokenKind.TheVariants.{Word, QuotedName, Literal, Number, Sign, MetaLine}
use Rattle.sql_lex.specs.Bytes.{is_blank, is_digit, begins_word, in_word, is_sign, marks_escapes, in_line, next_is}
use Rattle.sql_lex.specs.Written.{quoted}

-- one byte that can begin a word, and then bytes that can go on with it
abbrev pub IsWord : List ℕ → Type 0
IsWord [] = ⊥
IsWord (b ∷ rest) = (begins_word b ≡ true) × (list_all in_word rest ≡ true)

-- a text in these quotes, where each of its own quotes is doubled
abbrev pub IsQuoted : ℕ → List ℕ → Type 0
IsQuoted q word = (text : List ℕ) × (word ≡ quoted q text)

-- between the quotes of a literal with escapes: a backslash takes the next byte with it, a quote is doubled
pub data IsEscapedText : List ℕ → Type 0 where
  none : IsEscapedText []
  plain : {text : List ℕ} (b : ℕ) → (b == 39) ≡ false → (b == 92) ≡ false → IsEscapedText text → IsEscapedText (b ∷ text)
  quote : {text : List ℕ} → IsEscapedText text → IsEscapedText (39 ∷ 39 ∷ text)
  taken : {text : List ℕ} (b : ℕ) → IsEscapedText text → IsEscapedText (92 ∷ b ∷ text)

abbrev pub IsEscaped : List ℕ → Type 0
IsEscaped word = (mark : ℕ) × (text : List ℕ) × (marks_escapes mark ≡ true) × IsEscapedText text × (word ≡ mark ∷ 39 ∷ (text ++ 39 ∷ []))

abbrev pub AreDigits : List ℕ → Type 0
AreDigits word = (0 < length word) × (list_all is_digit word ≡ true)

-- digits, or digits, a dot and digits
abbrev pub IsNumber : List ℕ → Type 0
IsNumber word = AreDigits word ⊎ ((whole : List ℕ) × (parts : List ℕ) × AreDigits whole × AreDigits parts × (word ≡ whole ++ 46 ∷ parts))

-- a backslash and bytes other than a line feed
abbrev pub IsMetaLine : List ℕ → Type 0
IsMetaLine word = (line : List ℕ) × (list_all in_line line ≡ true) × (word ≡ 92 ∷ line)

-- the bytes spell a token of the kind
abbrev pub Spells : TokenKind → List ℕ → Type 0
Spells Word word = IsWord word
Spells QuotedName word = IsQuoted 34 word
Spells Literal word = IsQuoted 39 word ⊎ IsEscaped word
Spells Number word = IsNumber word
Spells (Sign b) word = (is_sign b ≡ true) × (word ≡ b ∷ [])
Spells MetaLine word = IsMetaLine word

-- a dot and a digit
unfoldable pub goes_on_behind_dot : List ℕ → Bool
goes_on_behind_dot [] = false
goes_on_behind_dot (b ∷ rest) = b == 46 && next_is is_digit rest

-- What follows goes on with the token: it is longer, or no token of this kind at all. An `E` before a quote begins a
-- literal, `--` and `/*` begin comments, and a quoted text goes on behind a doubled quote.
unfoldable pub goes_on : TokenKind → List ℕ → List ℕ → Bool
goes_on Word word rest = next_is in_word rest || (length word == 1 && next_is marks_escapes word && next_is (λ b. b == 39) rest)
goes_on QuotedName word rest = next_is (λ b. b == 34) rest
goes_on Literal word rest = next_is (λ b. b == 39) rest
goes_on Number word rest = next_is is_digit rest || (list_all is_digit word && goes_on_behind_dot rest)
goes_on (Sign b) word rest = (b == 45 && next_is (λ c. c == 45) rest) || (b == 47 && next_is (λ c. c == 42) rest)
goes_on MetaLine word rest = next_is in_line rest

-- a run of white space
abbrev pub AreBlanks : List ℕ → Type 0
AreBlanks word = (0 < length word) × (list_all is_blank word ≡ true)

-- two minus signs and bytes other than a line feed
abbrev pub IsLineComment : List ℕ → Type 0
IsLineComment word = (line : List ℕ) × (list_all in_line line ≡ true) × (word ≡ 45 ∷ 45 ∷ line)

-- `/*` or `*/`
unfoldable pub is_bound : ℕ → List ℕ → Bool
is_bound b rest = (b == 47 && next_is (λ c. c == 42) rest) || (b == 42 && next_is (λ c. c == 47) rest)

-- read from the left, the bytes close so many open comments: `/*` opens one more, `*/` closes one, and any other byte
-- is passed
pub data Closes : ℕ → List ℕ → Type 0 where
  all : Closes 0 []
  opens : {depth : ℕ} {text : List ℕ} → Closes (suc (suc depth)) text → Closes (suc depth) (47 ∷ 42 ∷ text)
  closes : {depth : ℕ} {text : List ℕ} → Closes depth text → Closes (suc depth) (42 ∷ 47 ∷ text)
  passes : {depth : ℕ} {text : List ℕ} (b : ℕ) → is_bound b text ≡ false → Closes (suc depth) text → Closes (suc depth) (b ∷ text)

-- `/*`, and bytes that close it
abbrev pub IsBlockComment : List ℕ → Type 0
IsBlockComment word = (text : List ℕ) × Closes 1 text × (word ≡ 47 ∷ 42 ∷ text)

-- white space or a comment, as long as what follows lets it be
abbrev pub IsGap : List ℕ → List ℕ → Type 0
IsGap word rest = (AreBlanks word × (next_is is_blank rest ≡ false)) ⊎ ((IsLineComment word × (next_is in_line rest ≡ false)) ⊎ IsBlockComment word)

-- a token of the kind, which what follows doesn't go on with; a line that begins with a backslash begins a line
pub record IsLexeme (at_line : Bool) (kind : TokenKind) (word rest : List ℕ) : Type 0 where
  pub spells : Spells kind word
  pub ends : goes_on kind word rest ≡ false
  pub line : kind ≡ MetaLine → at_line ≡ true

-- the bytes are a piece of that kind, or white space or a comment, before the rest
abbrev pub IsPiece : Bool → Option TokenKind → List ℕ → List ℕ → Type 0
IsPiece at_line None word rest = IsGap word rest
IsPiece at_line (Some kind) word rest = IsLexeme at_line kind word rest

-- something opens that must be closed: a quoted name, a literal, or a comment
unfoldable pub opens_here : List ℕ → Bool
opens_here [] = false
opens_here (b ∷ rest) = b == 34 || b == 39 || (marks_escapes b && next_is (λ c. c == 39) rest) || (b == 47 && next_is (λ c. c == 42) rest)
