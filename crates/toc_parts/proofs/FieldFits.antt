-- Which numbers, integers and strings can be written.
use Rattle.std.proofs.Common.{◌≡◌, ℕ, suc, ◌<◌, ◌^◌, ℤ, pos, negsuc, List, length, Option, Some, None, refl, ap, arith, decimal}
use Rattle.std.specs.Int.{w32, w64}
use Rattle.std.specs.Option.{ForSome}
use Rattle.std.specs.Str.{IsUtf8}
use Rattle.std.proofs.lemmas.Int.{ints}
use Rattle.std.proofs.lemmas.Nat.{from_le_bytes-to_le_bytes_4, from_le_bytes-to_le_bytes_8}
use Rattle.std.proofs.lemmas.Str.{is_utf8-from_IsUtf8, IsUtf8-from_ascii}
use Rattle.std.proofs.lemmas.Fmt.{length-decimal-le, IsAscii-decimal}
use Rattle.dump_ports.specs.Moment.{IsPart}
use Rattle.toc_parts.specs.declared.fault.FieldFault.TheVariants.{Short}
use Rattle.toc_parts.specs.Fields.{number, integer, span, string, text_of}

pub number_fits : {E : Type 0} (short : E) (n : ℕ) → n < 2 ^ 32 → (number short w32).Fits n
number_fits short n low = (from_le_bytes-to_le_bytes_4 n low, refl)

pub number_of_eight_fits : {E : Type 0} (short : E) (n : ℕ) → n < 2 ^ 64 → (number short w64).Fits n
number_of_eight_fits short n low = (from_le_bytes-to_le_bytes_8 n low, refl)

pub integer_fits : {E : Type 0} (short : E) (n : ℤ) → IsPart n → (integer short).Fits n
unfolding integer
integer_fits short (pos n) part = (refl, (tt, number_fits short n (omega (arith, ints, part.1))))
integer_fits short (negsuc n) part = (refl, (tt, number_fits short (suc n) (omega (arith, ints, part.0))))

pub natural_is_part : (n : ℕ) → n < 2 ^ 32 → IsPart (pos n)
natural_is_part n low = (omega (arith, ints), omega (arith, ints))

none_is_part : IsPart (negsuc 0)
none_is_part = (omega (arith, ints), omega (arith, ints))

is_text : (bytes : List ℕ) → IsUtf8 bytes → text_of bytes ≡ Some bytes
is_text bytes h = rw (is_utf8-from_IsUtf8 bytes h) refl

pub string_fits : (v : Option (List ℕ)) → ForSome v (λ t. IsUtf8 t) → ForSome v (λ t. length t < 2 ^ 32) → string.Fits v
unfolding string span
string_fits None text short = (refl, ((refl, integer_fits Short (negsuc 0) none_is_part), refl))
string_fits (Some t) text short =
    (ap (λ (o : Option (List ℕ)). by o) (is_text t (text t refl)), ((refl, integer_fits Short (pos (length t)) (natural_is_part (length t) (short t refl))), (refl, refl)))
  where
    by : Option (List ℕ) → Option (Option (List ℕ))
    by None = None
    by (Some x) = Some (Some x)

pub text_fits : (t : List ℕ) → IsUtf8 t → length t < 2 ^ 32 → string.Fits (Some t)
text_fits t text short = string_fits (Some t) (λ x e. let is : t ≡ x = cc in rw (← is) text) (λ x e. let is : t ≡ x = cc in rw (← is) short)

pub decimal_fits : (n : ℕ) → n < 2 ^ 32 → string.Fits (Some (decimal n))
decimal_fits n low =
    text_fits (decimal n) (IsUtf8-from_ascii (decimal n) (IsAscii-decimal n (omega arith)))
    (omega (arith, length-decimal-le 10 n (omega arith) (omega arith) (omega arith)))
