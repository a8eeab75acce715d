-- The laws of the fields.
use Rattle.std.proofs.Common.{◌≡◌, ℕ, Bool, true, false, cond, ltb, List, [], ◌∷◌, ◌++◌, length, take, drop, Option, Some, None, Ok, Err, refl, sym, ap, ◌∙◌, arith, length-append}
use Rattle.std.specs.Int.{Width, w32, byte_len, from_le_bytes, to_le_bytes}
use Rattle.std.specs.Prelude.{option_map}
use Rattle.std.proofs.lemmas.Bool.{ltb-false, le-ltb}
use Rattle.std.proofs.lemmas.List.{take_at, drop_at, take-append-drop, length-take}
use Rattle.toc_parts.specs.declared.fault.FieldFault.{FieldFault}
use Rattle.toc_parts.specs.declared.fault.FieldFault.TheVariants.{Short}
use Rattle.toc_parts.specs.Parts.{Reading, ◌then◌}
use Rattle.toc_parts.specs.Fields.{byte, byte_at, run, run_at, number, integer, signed, sign_and_magnitude, length_of, shown_length, bad_string, text_length, bytes_of, span, text_in, string}
use Rattle.toc_parts.specs.Laws.{Found, Lawful, TakesByte}
use Rattle.toc_parts.proofs.Steps.{ok_is}
use Rattle.toc_parts.proofs.Simple.{nothing_laws, then_laws, behind_laws, seen_laws, understood_laws, then_some, behind_some, seen_some, understood_some}

abbrev got : {E A : Type 0} → A → List ℕ → Reading E A
got v rest = Ok (v, rest)

-- ---- bytes

byte_found : {E : Type 0} (short : E) (bytes : List ℕ) (n : ℕ) (rest : List ℕ) → byte_at short bytes ≡ Ok (n, rest) → Found (byte short) bytes n rest
byte_found short [] n rest e = absurd cc
byte_found {E} short (b ∷ bytes) n rest e =
    let same : (b, bytes) ≡ (n, rest) = ok_is {E = E} (b, bytes) (n, rest) e in
    record { front = b ∷ []; parts = ap (λ (x : ℕ × List ℕ). b ∷ x.1) same; spells = ap (λ (x : ℕ × List ℕ). x.0 ∷ []) same }

pub byte_laws : {E : Type 0} (short : E) → Lawful (byte short)
byte_laws short = record {
  found = byte_found short;
  only = λ n front rest spells. ap (λ (f : List ℕ). byte_at short (f ++ rest)) spells;
  written = λ n fits. refl;
}

pub byte_some : {E : Type 0} (short : E) → TakesByte (byte short)
byte_some short n bytes spells = omega (arith, ap length spells)

run_ok : {E : Type 0} (short : E) (b : Bool) (x y : List ℕ × List ℕ) → cond b (Err short) (got x.0 x.1) ≡ Ok y → (b ≡ false) × (x ≡ y)
run_ok short true x y e = absurd cc
run_ok {E} short false x y e = (refl, ok_is {E = E} x y e)

run_found : {E : Type 0} (short : E) (n : ℕ) (bytes v rest : List ℕ) → run_at short n bytes ≡ Ok (v, rest) → Found (run short n) bytes v rest
run_found short n bytes v rest e =
    let h = run_ok short (ltb (length bytes) n) (take n bytes, drop n bytes) (v, rest) e in
    let front : take n bytes ≡ v = ap (λ (x : List ℕ × List ℕ). x.0) h.1 in
    let back : drop n bytes ≡ rest = ap (λ (x : List ℕ × List ℕ). x.1) h.1 in
    let len : length (take n bytes) ≡ n = omega (arith, length-take n bytes, ltb-false (length bytes) n h.0) in
    record { front = v; parts = sym (take-append-drop n bytes) ∙ ap (λ (f : List ℕ). f ++ drop n bytes) front ∙ ap (λ (r : List ℕ). v ++ r) back; spells = (sym (ap length front) ∙ len, refl) }

run_only : {E : Type 0} (short : E) (n : ℕ) (v front rest : List ℕ) → (run short n).Spells v front → run_at short n (front ++ rest) ≡ Ok (v, rest)
run_only short n v front rest spells =
    let len : length v ≡ n = spells.0 in
    let long : ltb (length (v ++ rest)) n ≡ false = le-ltb _ _ (omega (arith, length-append v rest)) in
    ap (λ (f : List ℕ). run_at short n (f ++ rest)) spells.1 ∙ rw (long, take_at v rest n len, drop_at v rest n len) refl

pub run_laws : {E : Type 0} (short : E) (n : ℕ) → Lawful (run short n)
run_laws short n = record {
  found = run_found short n;
  only = run_only short n;
  written = λ v fits. (fits, refl);
}

pub number_laws : {E : Type 0} (short : E) (w : Width) → Lawful (number short w)
number_laws short w = seen_laws (from_le_bytes w) (to_le_bytes w) (run short (byte_len w)) (run_laws short (byte_len w))

-- ---- integers

pub integer_laws : {E : Type 0} (short : E) → Lawful (integer short)
unfolding integer
integer_laws short = seen_laws signed sign_and_magnitude (byte short then number short w32) (then_laws (byte short) (number short w32) (byte_laws short) (number_laws short w32))

pub integer_some : {E : Type 0} (short : E) → TakesByte (integer short)
unfolding integer
integer_some short = seen_some signed sign_and_magnitude (byte short then number short w32) (then_some (byte short) (number short w32) (byte_some short))

-- ---- strings

pub text_length_laws : Lawful text_length
text_length_laws = understood_laws length_of shown_length bad_string (integer Short) (integer_laws Short)

text_length_some : TakesByte text_length
text_length_some = understood_some length_of shown_length bad_string (integer Short) (integer_some Short)

bytes_of_laws : (n : Option ℕ) → Lawful (bytes_of n)
bytes_of_laws None = nothing_laws {E = FieldFault} {A = Option (List ℕ)} None
bytes_of_laws (Some n) = seen_laws Some _ (run Short n) (run_laws Short n)

pub span_laws : Lawful span
unfolding span
span_laws = behind_laws text_length bytes_of (option_map (λ v. length v)) text_length_laws bytes_of_laws

pub span_some : TakesByte span
unfolding span
span_some = behind_some text_length bytes_of (option_map (λ v. length v)) text_length_some

pub string_laws : Lawful string
unfolding string
string_laws = understood_laws text_in (λ v. v) bad_string span span_laws

pub string_some : TakesByte string
unfolding string
string_some = understood_some text_in (λ v. v) bad_string span span_some
