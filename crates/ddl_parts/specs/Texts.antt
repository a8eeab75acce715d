-- What a statement's values are, so that they can be written: names, numbers, and texts of runs of tokens.
use Rattle.std.specs.Prelude.{◌≡◌, ℕ, ◌^◌, ℤ, pos, negsuc, Bool, nat_lt, true, false, List, length, Some}
use Rattle.copy_text.specs.Texts.{IsName}
use Rattle.cat_model.specs.{declared.object.QName.QName, declared.type_name.TypeName.TypeName}
use Rattle.cat_model.specs.declared.type_name.TypeName.TheVariants as type_name
use Rattle.ddl_parts.specs.{Lexemes.Lexeme, Lexemes.starts, Lexemes.start_of, Lexemes.is_sign, Parts.Machine, Parts.Runs, Pieces.lexemes, Collecting.collected, Expressions.nested, Types.typing, Types.type_of}

abbrev pub semicolon : Lexeme → Bool
semicolon = is_sign 59

-- whether a number has 64 bits
abbrev pub is_int : ℤ → Bool
is_int (pos n) = nat_lt n (2 ^ 63)
is_int (negsuc n) = nat_lt n (2 ^ 63)

abbrev pub IsInt : ℤ → Type 0
IsInt z = is_int z ≡ true

-- both parts of a path are names
abbrev pub IsPath : QName → Type 0
IsPath q = IsName q.schema × IsName q.name

-- The text of tokens that are so, and nothing else: it begins with the first of them and ends with the last.
pub record IsTextOf (Run : List Lexeme → Type 0) (v : List ℕ) : Type 0 where
  pub first : start_of (lexemes v (collected v 0).pieces) ≡ Some 0
  pub last : (collected v 0).end ≡ length v
  pub runs : Run (lexemes v (collected v 0).pieces)

-- a run of tokens
abbrev pub IsRunText : Machine → List ℕ → Type 0
IsRunText m v = IsTextOf (Runs m) v

-- an expression
abbrev pub IsExpressionText : List ℕ → Type 0
IsExpressionText v = IsRunText (nested false false) v

-- an expression that begins with an opening bracket
abbrev pub IsBracketText : List ℕ → Type 0
IsBracketText v = IsExpressionText v × (starts (is_sign 40) (lexemes v (collected v 0).pieces) ≡ true)

-- a default that NOT NULL may not follow
abbrev pub IsDefaultText : List ℕ → Type 0
IsDefaultText v = IsRunText (nested true false) v

-- the words of a type, which are no qualified name
pub record IsTypeText (v : List ℕ) : Type 0 where
  pub run : IsRunText typing v
  pub words : type_of (lexemes v (collected v 0).pieces) ≡ type_name.Words v

-- words that are a type, or a path
abbrev pub IsType : TypeName → Type 0
IsType (type_name.Words v) = IsTypeText v
IsType (type_name.Path q) = IsPath q
