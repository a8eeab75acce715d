-- What the tokens of a kept text say: words with A to Z made small, names and literals without their quotes.
-- A literal with escapes says nothing here, nor does a line that begins with a backslash.
use Rattle.std.specs.Prelude.{ℕ, Bool, true, false, ◌==◌, nat_eq, List, [], ◌∷◌, map, Option, Some, None, Result, Ok, Err}
use Rattle.std.specs.List.{list_any}
use Rattle.std.specs.Cmp.Lexicographic.{pointwise}
use Rattle.sql_lex.specs.declared.fault.LexFault.{LexFault}
use Rattle.sql_lex.specs.declared.token.Token.{Token}
use Rattle.sql_lex.specs.declared.token.TokenKind.{TokenKind}
use Rattle.sql_lex.specs.declared.token.TokenKind.TheVariants.{Word, QuotedName, Literal, Number, Sign, MetaLine}
use Rattle.sql_lex.specs.Meaning.{spelling, name_of, literal_of}
use Rattle.sql_lex.specs.Next.{tokens_of}
use Rattle.cat_model.specs.Values.{Bytes}

pub data Lexeme : Type 0 where
  word : Bytes → Lexeme
  quoted : Bytes → Lexeme
  literal : Bytes → Lexeme
  number : Bytes → Lexeme
  sign : ℕ → Lexeme
  other : Lexeme

abbrev pub or_other : (Bytes → Lexeme) → Option Bytes → Lexeme
or_other says (Some text) = says text
or_other says None = other

-- what a token of this kind and spelling says
abbrev pub lexeme_by : TokenKind → Bytes → Lexeme
lexeme_by Word spelled = or_other word (name_of Word spelled)
lexeme_by QuotedName spelled = or_other quoted (name_of QuotedName spelled)
lexeme_by Literal spelled = or_other literal (literal_of Literal spelled)
lexeme_by Number spelled = number spelled
lexeme_by (Sign b) spelled = sign b
lexeme_by MetaLine spelled = other

abbrev pub lexeme_of : Bytes → Token → Lexeme
lexeme_of text t = lexeme_by t.kind (spelling text t)

abbrev pub lexemes_of : Bytes → Result (List Token) LexFault → List Lexeme
lexemes_of text (Ok tokens) = map (lexeme_of text) tokens
lexemes_of text (Err fault) = []

-- the lexemes of a text, and none where it has no tokens
unfoldable pub lexemes : Bytes → List Lexeme
lexemes text = lexemes_of text (tokens_of text)

-- ---- what lexemes are

abbrev pub same_text : Bytes → Bytes → Bool
same_text = pointwise nat_eq

abbrev pub is_sign : ℕ → Lexeme → Bool
is_sign b (sign c) = b == c
is_sign b _ = false

abbrev pub is_word : Bytes → Lexeme → Bool
is_word w (word v) = same_text w v
is_word w _ = false

abbrev pub is_one_of : List Bytes → Lexeme → Bool
is_one_of ws x = list_any (λ w. is_word w x) ws

-- the name that a lexeme spells
abbrev pub name_in : Lexeme → Option Bytes
name_in (word w) = Some w
name_in (quoted w) = Some w
name_in _ = None

abbrev pub no_more : List Lexeme → Bool
no_more [] = true
no_more _ = false
