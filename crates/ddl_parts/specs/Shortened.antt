-- Tokens that are too long, and what stands in the place of one where a shorter name does.
-- A token is too long where it is a name but for its length, or the literal of a path but for the length of a name in it.
use Rattle.std.specs.Prelude.{◌≡◌, ◌⊎◌, ℕ, Bool, true, false, List, [], ◌∷◌, Result, Ok, Err, is_some, codes}
use Rattle.sql_lex.specs.{declared.token.TokenKind.TokenKind, declared.token.TokenKind.TheVariants.QuotedName, declared.token.TokenKind.TheVariants.Literal}
use Rattle.cat_model.specs.declared.object.QName.{QName}
use Rattle.ddl_parts.specs.{Lexemes.Lexeme, Parts.Reading, Pieces.lexemes, Collecting.Collected, Collecting.collected, Leaves.name_value, Leaves.literal_value, Leaves.qualified}

-- ---- a path in a literal

-- a path with nothing behind it, where no fault stands there
abbrev pub if_last : Bool → QName → List Lexeme → Result QName Bool
if_last false q [] = Ok q
if_last fault q ts = Err false

-- the error says whether what goes wrong is a name that is too long
abbrev pub whole_path : Bool → Reading QName → Result QName Bool
whole_path fault (Ok x) = if_last fault x.0 x.1
whole_path fault (Err s) = Err s.long

-- the path that the tokens of a text spell, unless a fault stands behind them
abbrev pub path_by : List ℕ → Collected → Result QName Bool
path_by text c = whole_path (is_some c.fault) (qualified.read (lexemes text c.pieces))

-- the path that all tokens of a text spell
unfoldable pub path_in : List ℕ → Result QName Bool
path_in text = path_by text (collected text 0)

abbrev pub path_of : Result (List ℕ) Bool → Result QName Bool
path_of (Ok text) = path_in text
path_of (Err long) = Err long

-- the path in the text of a literal without escapes
unfoldable pub path_value : Lexeme → Result QName Bool
path_value t = path_of (literal_value t)

-- ---- tokens that are too long

abbrev pub IsTooLong : Lexeme → Type 0
IsTooLong t = (name_value t ≡ Err true) ⊎ (path_value t ≡ Err true)

-- the name a, bare or in quotes, or the literal of the path a.a
abbrev pub short_word : TokenKind → List ℕ
short_word QuotedName = 34 ∷ 97 ∷ 34 ∷ []
short_word Literal = 39 ∷ 97 ∷ 46 ∷ 97 ∷ 39 ∷ []
short_word _ = codes "a"

-- a short token of the same kind
abbrev pub shortened : Lexeme → Lexeme
shortened t = record t { word = short_word t.kind }
