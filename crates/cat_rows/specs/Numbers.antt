-- Numbers in cells are plain decimals, so that each number has one text: no plus, no leading zero, no minus zero.
-- An oid is a number below 2^32, an integer one of 64 bits with a sign.
use Rattle.std.specs.Prelude.{ℕ, ◌^◌, List, Option, Some, None, Bool, ℤ, pos, negsuc, decimal, nat_lt, ◌&&◌, if◌then◌else◌}
use Rattle.std.specs.Str.{bytes_eq}
use Rattle.std.specs.Str.Parse.{digits_value, signed_digits_value}
use Rattle.std.specs.Fmt.{signed_decimal}

-- the oid whose decimal the text is
unfoldable pub oid_of : List ℕ → Option ℕ
oid_of text =
    let n = digits_value 10 text in
    if bytes_eq text (decimal n) && nat_lt n (2 ^ 32) then Some n else None

-- whether a number has 64 bits
abbrev pub is_int : ℤ → Bool
is_int (pos n) = nat_lt n (2 ^ 63)
is_int (negsuc n) = nat_lt n (2 ^ 63)

-- the integer whose decimal the text is
unfoldable pub int_of : List ℕ → Option ℤ
int_of text =
    let z = signed_digits_value 10 text in
    if bytes_eq text (signed_decimal z) && is_int z then Some z else None
