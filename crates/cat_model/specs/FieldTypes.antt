-- Which texts are values of a type, and how they are compared.
-- https://www.postgresql.org/docs/16/datatype.html
use Rattle.std.specs.Prelude.{ℕ, ◌+◌, ◌-◌, ◌*◌, ◌%◌, Bool, true, false, ◌&&◌, ◌||◌, not, ◌==◌, nat_lt, nat_le, List, [], ◌∷◌, length, Option, Some, None, if◌then◌else◌, codes, count_by, reverse}
use Rattle.std.specs.List.{fold, list_all, list_any}
use Rattle.cat_model.specs.declared.type_name.TypeName.{TypeName}
use Rattle.cat_model.specs.declared.type_name.TypeName.TheVariants.{Words, Path}
use Rattle.cat_model.specs.Values.{Bytes, Resolved}
use Rattle.cat_model.specs.Lexemes.{Lexeme, number, lexemes, is_sign, is_word, same_text}

-- the types whose values are looked at; all other types take any text
pub data FieldType : Type 0 where
  boolean : FieldType
  smallint : FieldType
  integer : FieldType
  bigint : FieldType
  oid : FieldType
  bytea : FieldType
  varying : ℕ → FieldType
  character : ℕ → FieldType
  opaque : FieldType

-- ---- which type a text names

abbrev pub is_digit : ℕ → Bool
is_digit b = nat_le 48 b && nat_le b 57

abbrev pub number_of : Bytes → ℕ
number_of digits = fold (λ n b. n * 10 + (b - 48)) 0 digits

-- a length between brackets, without a fraction
abbrev pub with_length : (ℕ → FieldType) → Lexeme → Lexeme → Lexeme → FieldType
with_length type before (number digits) after =
    if is_sign 40 before && is_sign 41 after && list_all is_digit digits then type (number_of digits) else opaque
with_length type before _ after = opaque

abbrev pub type_of_word : Lexeme → FieldType
type_of_word w =
    if is_word (codes "boolean") w then boolean
    else if is_word (codes "smallint") w then smallint
    else if is_word (codes "integer") w then integer
    else if is_word (codes "bigint") w then bigint
    else if is_word (codes "oid") w then oid
    else if is_word (codes "bytea") w then bytea
    else if is_word (codes "character") w then character 1
    else opaque

abbrev pub type_of_lexemes : List Lexeme → FieldType
type_of_lexemes (w ∷ []) = type_of_word w
type_of_lexemes (w ∷ before ∷ n ∷ after ∷ []) =
    if is_word (codes "character") w then with_length character before n after else opaque
type_of_lexemes (w ∷ v ∷ before ∷ n ∷ after ∷ []) =
    if is_word (codes "character") w && is_word (codes "varying") v then with_length varying before n after else opaque
type_of_lexemes _ = opaque

-- in any letter case and spacing
abbrev pub field_type : TypeName → FieldType
field_type (Words text) = type_of_lexemes (lexemes text)
field_type (Path q) = opaque

-- ---- values

-- digits without a leading zero
abbrev pub is_plain : Bytes → Bool
is_plain [] = false
is_plain (d ∷ []) = is_digit d
is_plain (d ∷ ds) = not (d == 48) && list_all is_digit (d ∷ ds)

-- a plain decimal from minus `low` to `high`; there is no minus zero
abbrev pub is_number : ℕ → ℕ → Bytes → Bool
is_number low high [] = false
is_number low high (b ∷ bs) =
    if b == 45 then is_plain bs && nat_lt 0 (number_of bs) && nat_le (number_of bs) low
    else is_plain (b ∷ bs) && nat_le (number_of (b ∷ bs)) high

abbrev pub is_hex : ℕ → Bool
is_hex b = is_digit b || (nat_le 97 b && nat_le b 102)

-- a backslash, the letter x and an even number of hexadecimal digits
abbrev pub is_bytea : Bytes → Bool
is_bytea (a ∷ x ∷ digits) = a == 92 && x == 120 && length digits % 2 == 0 && list_all is_hex digits
is_bytea _ = false

-- how many characters a UTF-8 text has: each has one byte that doesn't go on with another
abbrev pub characters : Bytes → ℕ
characters text = count_by (λ b. nat_lt b 128 || nat_le 192 b) text

abbrev pub is_value : FieldType → Bytes → Bool
is_value boolean text = same_text text (codes "t") || same_text text (codes "f")
is_value smallint text = is_number 32768 32767 text
is_value integer text = is_number 2147483648 2147483647 text
is_value bigint text = is_number 9223372036854775808 9223372036854775807 text
is_value oid text = is_number 0 4294967295 text
is_value bytea text = is_bytea text
is_value (varying n) text = nat_le (characters text) n
is_value (character n) text = nat_le (characters text) n
is_value opaque text = true

abbrev pub is_label_or_value : Option (List Bytes) → TypeName → Bytes → Bool
is_label_or_value (Some labels) type text = list_any (same_text text) labels
is_label_or_value None type text = is_value (field_type type) text

-- whether a type takes a text
abbrev pub takes : Resolved → Bytes → Bool
takes r text = is_label_or_value r.labels r.type_name text

-- ---- comparing

abbrev pub without_front_blanks : Bytes → Bytes
without_front_blanks [] = []
without_front_blanks (b ∷ bs) = if b == 32 then without_front_blanks bs else b ∷ bs

-- a text without its trailing spaces
abbrev pub trimmed : Bytes → Bytes
trimmed text = reverse (without_front_blanks (reverse text))

abbrev pub compared_as : FieldType → Bytes → Bytes
compared_as (character n) text = trimmed text
compared_as _ text = text

-- values are equal where these are
abbrev pub comparable : Resolved → Bytes → Bytes
comparable r text = compared_as (field_type r.type_name) text
