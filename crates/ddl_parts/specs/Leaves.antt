-- The parts of one token with a value, and names of two parts.
use Rattle.std.specs.{Prelude.ℕ, Prelude.Bool, Prelude.true, Prelude.false, Prelude.◌||◌, Prelude.◌==◌, Prelude.nat_lt, Prelude.List, Prelude.[], Prelude.◌∷◌, Prelude.length, Prelude.Option, Prelude.Some, Prelude.None, Prelude.Result, Prelude.Ok, Prelude.Err, Prelude.if◌then◌else◌, List.list_any, Str.is_utf8}
use Rattle.sql_lex.specs.{declared.token.TokenKind.TokenKind, declared.token.TokenKind.TheVariants.Word, declared.token.TokenKind.TheVariants.QuotedName, declared.token.TokenKind.TheVariants.Literal, declared.token.TokenKind.TheVariants.Number, Meaning.name_of, Meaning.literal_of}
use Rattle.cat_model.specs.declared.object.QName.{QName}
use Rattle.ddl_parts.specs.{Lexemes.Lexeme, Lexemes.is_sign, Parts.Part, Parts.one, Parts.seen, Parts.◌then◌, Parts.◌▸◌}

-- A name has 1 to 63 bytes, none of them 0. `true` says that it has too many.
unfoldable pub name_in : Option (List ℕ) → Result (List ℕ) Bool
name_in None = Err false
name_in (Some bytes) =
    if length bytes == 0 || list_any (λ b. b == 0) bytes then Err false
    else (if nat_lt 63 (length bytes) then Err true
    else (if is_utf8 bytes then Ok bytes else Err false))

-- the name that a token stands for
unfoldable pub name_value : Lexeme → Result (List ℕ) Bool
name_value t = name_in (name_of t.kind t.word)

abbrev pub name : Part (List ℕ)
name = one name_value

-- a word or a quoted name, whatever it stands for
abbrev pub is_name_kind : TokenKind → Bool
is_name_kind Word = true
is_name_kind QuotedName = true
is_name_kind _ = false

unfoldable pub is_name : Lexeme → Bool
is_name t = is_name_kind t.kind

-- a text is UTF-8
unfoldable pub text_in : Option (List ℕ) → Result (List ℕ) Bool
text_in None = Err false
text_in (Some bytes) = if is_utf8 bytes then Ok bytes else Err false

-- the text of a literal without escapes
unfoldable pub literal_value : Lexeme → Result (List ℕ) Bool
literal_value t = text_in (literal_of t.kind t.word)

abbrev pub literal : Part (List ℕ)
literal = one literal_value

abbrev pub is_literal_kind : TokenKind → Bool
is_literal_kind Literal = true
is_literal_kind _ = false

unfoldable pub is_literal : Lexeme → Bool
is_literal t = is_literal_kind t.kind

-- a schema, a dot and a name
abbrev pub qualified : Part QName
qualified = seen (λ x. record { schema = x.0; name = x.1 }) (name then (is_sign 46 ▸ name))

abbrev pub digits_of : TokenKind → List ℕ → Option (List ℕ)
digits_of Number word = Some word
digits_of _ word = None

-- the spelling of a number that is the first of some tokens
abbrev pub number_first : List Lexeme → Option (List ℕ)
number_first [] = None
number_first (t ∷ ts) = digits_of t.kind t.word
