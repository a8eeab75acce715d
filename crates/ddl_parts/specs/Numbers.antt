-- Whole numbers of 64 bits: digits, or a minus sign and digits.
use Rattle.std.specs.{Prelude.ℕ, Prelude.zero, Prelude.suc, Prelude.◌+◌, Prelude.◌^◌, Prelude.◌&&◌, Prelude.nat_lt, Prelude.ℤ, Prelude.pos, Prelude.negsuc, Prelude.Bool, Prelude.false, Prelude.List, Prelude.[], Prelude.◌∷◌, Prelude.Option, Prelude.Some, Prelude.None, Prelude.Result, Prelude.Ok, Prelude.Err, Prelude.option_and_then, Prelude.if◌then◌else◌, List.list_all, Str.Parse.digits_value}
use Rattle.sql_lex.specs.Bytes.{is_digit}
use Rattle.ddl_parts.specs.{Lexemes.Lexeme, Lexemes.is_sign, Parts.Part, Parts.one, Parts.seen, Parts.choose, Parts.◌▸◌, Leaves.number_first}

-- the number of digits, where it is below a limit; a number with a fraction has none
unfoldable pub digits_below : ℕ → List ℕ → Option ℕ
digits_below limit word = if list_all is_digit word && nat_lt (digits_value 10 word) limit then Some (digits_value 10 word) else None

-- the number that is the first of some tokens
abbrev pub count_first : ℕ → List Lexeme → Option ℕ
count_first limit ts = option_and_then (digits_below limit) (number_first ts)

abbrev pub counted : Option ℕ → Result ℕ Bool
counted (Some n) = Ok n
counted None = Err false

-- the number of a token, where it is below a limit
unfoldable pub count_value : ℕ → Lexeme → Result ℕ Bool
count_value limit t = counted (count_first limit (t ∷ []))

abbrev pub count : ℕ → Part ℕ
count limit = one (count_value limit)

abbrev pub opposite : ℕ → ℤ
opposite zero = pos 0
opposite (suc n) = negsuc n

-- digits below 2^63, or a minus sign and digits up to 2^63
unfoldable pub whole_number : Part ℤ
whole_number = choose (is_sign 45) (seen opposite (is_sign 45 ▸ count (2 ^ 63 + 1))) (seen pos (count (2 ^ 63)))
