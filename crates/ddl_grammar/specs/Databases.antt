-- The grammar of the options of CREATE DATABASE.
use Rattle.std.specs.Prelude.{ℕ, Bool, false, not, ◌||◌, ◌&&◌, bytes_eq, List, [], ◌∷◌, Option, Some, None, Result, Ok, Err, if◌then◌else◌, codes}
use Rattle.cat_model.specs.{declared.constraint.Encoding.Encoding, declared.constraint.Encoding.TheVariants.Utf8}
use Rattle.ddl_parts.specs.{Lexemes.Lexeme, Lexemes.is_word, Lexemes.is_sign, Parts.Part, Parts.Items, Parts.one, Parts.mark, Parts.seen, Parts.choose, Parts.nothing, Parts.many, Parts.◌then◌, Parts.◌▸◌, Leaves.literal_value, Leaves.is_name, Leaves.is_literal, Types.is_word_kind, Types.is_number}
use Rattle.ddl_grammar.specs.Choices.{any_word}

-- ---- further options, which are dropped

-- the bytes of the first of some tokens
abbrev pub word_first : List Lexeme → Option (List ℕ)
word_first [] = None
word_first (t ∷ ts) = Some t.word

-- the options that stand once at most
abbrev pub own_options : List (List ℕ)
own_options = codes "template" ∷ codes "encoding" ∷ []

-- a bare word
unfoldable pub is_bare : Lexeme → Bool
is_bare t = is_word_kind t.kind

-- a bare word that names a further option
unfoldable pub is_option : Lexeme → Bool
is_option t = not (any_word own_options t) && is_bare t

-- a word, a quoted name, a literal or a number
unfoldable pub is_value : Lexeme → Bool
is_value t = is_name t || (is_literal t || is_number t)

-- option = value
unfoldable pub further : Part (Unit {0})
further = is_option ▸ (is_sign 61 ▸ mark is_value)

abbrev pub furthering : Items (Unit {0})
furthering = record {
  State = Unit {0};
  start = tt;
  more = λ s. is_option;
  item = λ s. further;
  next = λ s v. tt;
}

-- any number of them
unfoldable pub furthers : Part (Unit {0})
furthers = seen (λ options. tt) (many is_option furthering)

-- ---- the encoding

abbrev pub utf8_in : Result (List ℕ) Bool → Result Encoding Bool
utf8_in (Ok text) = if bytes_eq text (codes "UTF8") then Ok Utf8 else Err false
utf8_in (Err long) = Err long

-- the literal UTF8
unfoldable pub utf8_value : Lexeme → Result Encoding Bool
utf8_value t = utf8_in (literal_value t)

abbrev pub utf8 : Part Encoding
utf8 = one utf8_value

-- ENCODING = 'UTF8', and further options
unfoldable pub encoded : Part Encoding
encoded = seen (λ x. x.0) ((is_word (codes "encoding") ▸ (is_sign 61 ▸ utf8)) then furthers)

abbrev pub goes_on : Lexeme → Bool
goes_on t = is_word (codes "encoding") t || is_option t

unfoldable pub maybe_encoded : Part (Option Encoding)
maybe_encoded = choose (is_word (codes "encoding")) (seen Some encoded) (nothing goes_on None)

-- further options, with the encoding before, between or behind them, or without it
unfoldable pub options : Part (Option Encoding)
options = seen (λ x. x.1) (furthers then maybe_encoded)
