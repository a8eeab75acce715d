-- The fields of which an archive's head and entries are made: bytes, numbers, integers and strings.
use Rattle.std.specs.Prelude.{◌≡◌, ℕ, zero, suc, ◌^◌, ◌&&◌, Bool, ℤ, pos, negsuc, neg_ℤ, List, [], ◌∷◌, length, take, drop, Option, Some, None, Ok, Err, option_map, unwrap_or, ◌==◌, nat_lt, if◌then◌else◌}
use Rattle.std.specs.Int.{Width, w32, byte_len, from_le_bytes, to_le_bytes}
use Rattle.std.specs.Char.{is_ascii_digit}
use Rattle.std.specs.List.{list_all}
use Rattle.std.specs.Str.{is_utf8}
use Rattle.std.specs.Str.Parse.{digits_value}
use Rattle.toc_parts.specs.declared.fault.FieldFault.{FieldFault}
use Rattle.toc_parts.specs.declared.fault.FieldFault.TheVariants.{Short, BadString}
use Rattle.toc_parts.specs.Parts.{Part, Reading, nothing, ◌then◌, behind, seen, understood}

-- one byte; the fault is that none is left
abbrev pub byte_at : {E : Type 0} → E → List ℕ → Reading E ℕ
byte_at short [] = Err short
byte_at short (b ∷ rest) = Ok (b, rest)

abbrev pub byte : {E : Type 0} → E → Part E ℕ
byte short = record {
  Spells = λ n bytes. bytes ≡ n ∷ [];
  read = byte_at short;
  write = λ n. n ∷ [];
  Fits = λ n. Unit {0};
}

-- so many bytes; the fault is that fewer are left
abbrev pub run_at : {E : Type 0} → E → ℕ → List ℕ → Reading E (List ℕ)
run_at short n bytes = if nat_lt (length bytes) n then Err short else Ok (take n bytes, drop n bytes)

abbrev pub run : {E : Type 0} → E → ℕ → Part E (List ℕ)
run short n = record {
  Spells = λ v bytes. (length v ≡ n) × (bytes ≡ v);
  read = run_at short n;
  write = λ v. v;
  Fits = λ v. length v ≡ n;
}

-- a number without a sign, least significant byte first
abbrev pub number : {E : Type 0} → E → Width → Part E ℕ
number short w = seen (from_le_bytes w) (to_le_bytes w) (run short (byte_len w))

-- Any sign byte but 0 means that the number is below zero; with the magnitude 0 it is 0.
abbrev pub signed : ℕ × ℕ → ℤ
signed x = if x.0 == 0 then pos x.1 else neg_ℤ (pos x.1)

abbrev pub sign_and_magnitude : ℤ → ℕ × ℕ
sign_and_magnitude (pos n) = (0, n)
sign_and_magnitude (negsuc n) = (1, suc n)

-- a sign byte and four bytes of the magnitude
unfoldable pub integer : {E : Type 0} → E → Part E ℤ
integer short = seen signed sign_and_magnitude (byte short then number short w32)

-- the number where it isn't below zero
abbrev pub natural_of : ℤ → Option ℕ
natural_of (pos n) = Some n
natural_of (negsuc n) = None

-- ---- strings

-- the length of a string, or that there is none, which -1 says
abbrev pub length_of : ℤ → Option (Option ℕ)
length_of (pos n) = Some (Some n)
length_of (negsuc zero) = Some None
length_of (negsuc (suc n)) = None

abbrev pub shown_length : Option ℕ → ℤ
shown_length (Some n) = pos n
shown_length None = negsuc 0

abbrev pub bad_string : {A : Type 0} → A → ℕ → FieldFault
bad_string v left = BadString left

abbrev pub bytes_of : Option ℕ → Part FieldFault (Option (List ℕ))
bytes_of None = nothing None
bytes_of (Some n) = seen Some (λ v. unwrap_or v []) (run Short n)

-- a length and so many bytes, or -1
abbrev pub text_length : Part FieldFault (Option ℕ)
text_length = understood length_of shown_length bad_string (integer Short)

unfoldable pub span : Part FieldFault (Option (List ℕ))
span = behind text_length bytes_of (option_map (λ v. length v))

-- bytes that are UTF-8
abbrev pub text_of : List ℕ → Option (List ℕ)
text_of bytes = if is_utf8 bytes then Some bytes else None

abbrev pub text_in : Option (List ℕ) → Option (Option (List ℕ))
text_in None = Some None
text_in (Some bytes) = option_map Some (text_of bytes)

unfoldable pub string : Part FieldFault (Option (List ℕ))
string = understood text_in (λ v. v) bad_string span

-- ---- numbers as decimal texts

-- the number below 2^32 of which a text has the digits, one at least
abbrev pub are_digits : List ℕ → Bool
are_digits text = list_all is_ascii_digit text

abbrev pub in_range : List ℕ → Option ℕ
in_range text = if nat_lt 0 (length text) && nat_lt (digits_value 10 text) (2 ^ 32) then Some (digits_value 10 text) else None

unfoldable pub number_in : List ℕ → Option ℕ
number_in text = if are_digits text then in_range text else None
