-- A token with its bytes, and the text of a run of them.
-- Between two tokens stand white space and comments: the gap of the second.
use Rattle.std.specs.Prelude.{ℕ, Bool, false, ◌==◌, List, [], ◌∷◌, ◌++◌, Option, Some, None}
use Rattle.sql_lex.specs.{declared.token.TokenKind.TokenKind, declared.token.TokenKind.TheVariants.Sign, Meaning.is_keyword_of}

-- a token, what stands before it, and where its first byte stands
pub record Lexeme : Type 0 where
  pub gap : List ℕ
  pub kind : TokenKind
  pub word : List ℕ
  pub start : ℕ

-- the text of some tokens, with what stands before each
abbrev pub spelled : List Lexeme → List ℕ
spelled [] = []
spelled (t ∷ ts) = t.gap ++ (t.word ++ spelled ts)

-- the text from the first of them to the last
abbrev pub source : List Lexeme → List ℕ
source [] = []
source (t ∷ ts) = t.word ++ spelled ts

-- ---- what a token is

-- the key word, in letters of any case
unfoldable pub is_word : List ℕ → Lexeme → Bool
is_word key t = is_keyword_of t.kind t.word key

abbrev pub is_sign_kind : ℕ → TokenKind → Bool
is_sign_kind b (Sign c) = b == c
is_sign_kind b _ = false

-- the token of one byte
unfoldable pub is_sign : ℕ → Lexeme → Bool
is_sign b t = is_sign_kind b t.kind

abbrev pub never : Lexeme → Bool
never t = false

-- the first of the tokens is one of these
abbrev pub starts : (Lexeme → Bool) → List Lexeme → Bool
starts test [] = false
starts test (t ∷ ts) = test t

-- the place of the first of the tokens
abbrev pub start_of : List Lexeme → Option ℕ
start_of [] = None
start_of (t ∷ ts) = Some t.start
