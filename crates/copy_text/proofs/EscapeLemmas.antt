-- Decoding, run by run and escape by escape.
use Rattle.std.proofs.Common.{◌≡◌, ℕ, zero, suc, ◌+◌, ◌-◌, ◌*◌, ◌%◌, ◌<◌, ◌≤◌, Bool, true, false, Option, Some, eqb, ltb, List, [], ◌∷◌, ◌++◌, length, get_or, take, drop, refl, sym, ap, subst, ◌∙◌, append_assoc, arith, inl, inr, ◌⊎◌, ◌&&◌, add-one}
use Rattle.std.specs.List.{fold, prefix_len, AllPass}
use Rattle.std.specs.Option.{SomeIff}
use Rattle.std.specs.Char.{is_digit, digit_value}
use Rattle.std.proofs.lemmas.Bool.{ne_eqb, eqb-true, eq-eqb, cases_lt, cases_Bool, ltb-true, and_from, and_left, and_right, le-ltb, cond-true, cond-false, lt-ltb}
use Rattle.std.proofs.lemmas.List.{drop_more, append-nil, get_or-take, take-take, length-take, get_or_default, take_rest, drop_all, take_all, nil_from_length}
use Rattle.std.proofs.lemmas.List.Sums.{fold_more, prefix_len_passes, prefix_len-le-length}
use Rattle.std.proofs.lemmas.List.Folds.{length-prefix_len}
use Rattle.std.proofs.lemmas.Nat.{mul-mod_first}
use Rattle.memchr.specs.Find.{Nowhere, Passes, is_byte}
use Rattle.copy_text.specs.Marks.{backslash}
use Rattle.copy_text.specs.Pieces.{ends_escaping}
use Rattle.copy_text.specs.Escapes.{Escape, escape, decode, decode_behind, front_digits, byte_of_digits, byte_of_letter}

-- ---- digits

-- one more digit, modulo 256 at each step
pub digit_step : (n base v : ℕ) → (n % 256 * base % 256 + v) % 256 ≡ (n * base + v) % 256
digit_step n base v =
    let one : (n % 256 * base) % 256 ≡ (n * base) % 256 = mul-mod_first n base 256 in
    rw one (omega arith)

pub byte_of_digits_more : (base : ℕ) (digits : List ℕ) (i : ℕ) → i < length digits
    → byte_of_digits base (take (i + 1) digits) ≡ (byte_of_digits base (take i digits) * base % 256 + digit_value (get_or digits i 0)) % 256
byte_of_digits_more base digits i lt =
    let n : ℕ = fold (λ n c. n * base + digit_value c) 0 (take i digits) in
    rw (fold_more (λ n c. n * base + digit_value c) 0 digits i 0 lt) (sym (digit_step n base (digit_value (get_or digits i 0))))

-- a digit is no backslash
digit_no_backslash : (b base : ℕ) → base ≤ 36 → is_digit b base ≡ true → b ≡ backslash → ⊥
digit_no_backslash b base le digit is =
    let high : is_digit 92 base ≡ true = subst (λ (x : ℕ). is_digit x base ≡ true) is digit in
    absurd (omega (arith, ltb-true 36 base high))

module _ (base most : ℕ) (bytes : List ℕ) where
  len : ℕ
  len = prefix_len (λ c. is_digit c base) (take most bytes)

  -- the digits at the front are a front of the bytes
  pub front_len : (n : ℕ) → n ≡ prefix_len (λ c. is_digit c base) (take most bytes) → (n ≤ length bytes) × (take n bytes ≡ front_digits base most bytes)
  front_len n is =
      let short : n ≤ length (take most bytes) = omega (arith, prefix_len-le-length (λ c. is_digit c base) (take most bytes)) in
      let cut = length-take most bytes in
      (omega arith, rw is (sym (take-take _ most bytes (omega arith))))

  pub front_length : length (front_digits base most bytes) ≡ prefix_len (λ c. is_digit c base) (take most bytes)
  front_length = length-prefix_len (λ c. is_digit c base) (take most bytes)

  pub front_pass : (k : ℕ) → k < length (front_digits base most bytes) → is_digit (get_or bytes k 0) base ≡ true
  front_pass k lt =
      let below : k < prefix_len (λ c. is_digit c base) (take most bytes) = omega (arith, front_length) in
      let passes = prefix_len_passes (λ c. is_digit c base) (take most bytes) k 0 below in
      let within : k < most = omega (arith, prefix_len-le-length (λ c. is_digit c base) (take most bytes), length-take most bytes) in
      rw (← get_or-take most bytes k 0 within) passes

  pub front_le : length (front_digits base most bytes) ≤ length bytes
  front_le = omega (arith, front_length, (front_len (prefix_len (λ c. is_digit c base) (take most bytes)) refl).0)

pub front_digits_pass : (base most : ℕ) (bytes : List ℕ) (n : ℕ) → n ≡ prefix_len (λ c. is_digit c base) (take most bytes) → AllPass (λ c. is_digit c base) (take n bytes)
front_digits_pass base most bytes n is k d lt =
    let cut = length-take n bytes in
    let front = front_length base most bytes in
    let below : k < n = omega arith in
    let in_front : k < length (front_digits base most bytes) = omega arith in
    let digit = front_pass base most bytes k in_front in
    rw (get_or-take n bytes k d below, get_or_default bytes k d 0 (omega arith)) digit

-- the three kinds of escapes
pub escape_octal : (bytes : List ℕ) → 0 < length (front_digits 8 3 bytes)
    → escape bytes ≡ record { stands_for = byte_of_digits 8 (front_digits 8 3 bytes) ∷ []; len = length (front_digits 8 3 bytes) }
unfolding escape
escape_octal [] some = absurd (omega arith)
escape_octal (c ∷ rest) some = cond-true _ _ _ (lt-ltb _ _ some)

pub escape_hexadecimal : (bytes : List ℕ) → length (front_digits 8 3 bytes) ≡ 0 → get_or bytes 0 0 ≡ 120 → 0 < length (front_digits 16 2 (drop 1 bytes))
    → escape bytes ≡ record { stands_for = byte_of_digits 16 (front_digits 16 2 (drop 1 bytes)) ∷ []; len = length (front_digits 16 2 (drop 1 bytes)) + 1 }
unfolding escape
escape_hexadecimal [] none is some = absurd (omega arith)
escape_hexadecimal (c ∷ rest) none is some =
    let not_octal : ltb 0 (length (front_digits 8 3 (c ∷ rest))) ≡ false = le-ltb _ _ (omega arith) in
    let is_hexadecimal : (eqb c 120 && ltb 0 (length (front_digits 16 2 rest))) ≡ true = and_from _ _ (eq-eqb c 120 is) (lt-ltb _ _ some) in
    cond-false _ _ _ not_octal ∙ cond-true _ _ _ is_hexadecimal

pub escape_letter : (bytes : List ℕ) → 0 < length bytes → length (front_digits 8 3 bytes) ≡ 0
    → (eqb (get_or bytes 0 0) 120 ≡ false) ⊎ (length (front_digits 16 2 (drop 1 bytes)) ≡ 0)
    → escape bytes ≡ record { stands_for = byte_of_letter (get_or bytes 0 0) ∷ []; len = 1 }
unfolding escape
escape_letter [] some none other = absurd (omega arith)
escape_letter (c ∷ rest) some none other =
    let not_octal : ltb 0 (length (front_digits 8 3 (c ∷ rest))) ≡ false = le-ltb _ _ (omega arith) in
    cond-false _ _ _ not_octal ∙ cond-false _ _ _ (is_letter other)
  where
    is_letter : (eqb c 120 ≡ false) ⊎ (length (front_digits 16 2 rest) ≡ 0) → (eqb c 120 && ltb 0 (length (front_digits 16 2 rest))) ≡ false
    is_letter (inl another) = and_left _ _ another
    is_letter (inr alone) = and_right (eqb c 120) _ (le-ltb _ _ (omega arith))

-- the same of what the code has read
pub is_octal : (bytes octal : List ℕ) (byte : ℕ) → octal ≡ front_digits 8 3 bytes → (length octal ≡ 0 → ⊥) → byte ≡ byte_of_digits 8 octal
    → escape bytes ≡ record { stands_for = byte ∷ []; len = length octal }
is_octal bytes octal byte is some value = rw (value, is) (escape_octal bytes (subst (λ (xs : List ℕ). 0 < length xs) is (omega arith)))

pub is_hexadecimal : (bytes octal hexadecimal : List ℕ) (byte : ℕ) → octal ≡ front_digits 8 3 bytes → length octal ≡ 0 → get_or bytes 0 0 ≡ 120
    → hexadecimal ≡ front_digits 16 2 (take (length bytes - 1) (drop 1 bytes)) → (length hexadecimal ≡ 0 → ⊥) → byte ≡ byte_of_digits 16 hexadecimal
    → escape bytes ≡ record { stands_for = byte ∷ []; len = length hexadecimal + 1 }
is_hexadecimal bytes octal hexadecimal byte is_octal none x is some value =
    let same : hexadecimal ≡ front_digits 16 2 (drop 1 bytes) = is ∙ ap (front_digits 16 2) (take_rest bytes 1) in
    rw (value, same) (escape_hexadecimal bytes (subst (λ (xs : List ℕ). length xs ≡ 0) is_octal none) x (subst (λ (xs : List ℕ). 0 < length xs) same (omega arith)))

pub is_letter : (bytes octal hexadecimal : List ℕ) (byte : ℕ) → 0 < length bytes → octal ≡ front_digits 8 3 bytes → length octal ≡ 0
    → hexadecimal ≡ front_digits 16 2 (take (length bytes - 1) (drop 1 bytes)) → (get_or bytes 0 0 ≡ 120 → ⊥) ⊎ (length hexadecimal ≡ 0) → byte ≡ byte_of_letter (get_or bytes 0 0)
    → escape bytes ≡ record { stands_for = byte ∷ []; len = 1 }
is_letter bytes octal hexadecimal byte some is_octal none is other value = rw value (escape_letter bytes some (subst (λ (xs : List ℕ). length xs ≡ 0) is_octal none) (which other))
  where
    same : hexadecimal ≡ front_digits 16 2 (drop 1 bytes)
    same = is ∙ ap (front_digits 16 2) (take_rest bytes 1)

    which : (get_or bytes 0 0 ≡ 120 → ⊥) ⊎ (length hexadecimal ≡ 0) → (eqb (get_or bytes 0 0) 120 ≡ false) ⊎ (length (front_digits 16 2 (drop 1 bytes)) ≡ 0)
    which (inl another) = inl (ne_eqb _ _ another)
    which (inr alone) = inr (subst (λ (xs : List ℕ). length xs ≡ 0) same alone)

-- what `to_digit` gave
pub digit_read : {o : Option ℕ} (P : Type 0) (v x : ℕ) → SomeIff o P v → o ≡ Some x → x ≡ v
digit_read P v x given is = (subst (λ (o : Option ℕ). SomeIff o P v) is given).1

-- ---- decoding

pub decode_behind-drop : (n : ℕ) (bytes : List ℕ) → decode_behind n bytes ≡ decode (drop n bytes)
unfolding decode_behind
decode_behind-drop zero bytes = refl
decode_behind-drop (suc n) [] = refl
decode_behind-drop (suc n) (b ∷ rest) = decode_behind-drop n rest

pub decode_nil : decode [] ≡ []
unfolding decode_behind
decode_nil = refl

-- a run of bytes of which none is a backslash stands for itself
pub decode_run : (k : ℕ) (bytes : List ℕ) → k ≤ length bytes → ((j : ℕ) → j < k → get_or bytes j 0 ≡ backslash → ⊥)
    → decode bytes ≡ take k bytes ++ decode (drop k bytes)
unfolding decode_behind
decode_run zero bytes le none = refl
decode_run (suc k) [] le none = absurd (omega arith)
decode_run (suc k) (b ∷ rest) le none =
    let other : eqb b backslash ≡ false = ne_eqb b backslash (none 0 (omega arith)) in
    rw other (ap (λ (xs : List ℕ). b ∷ xs) (decode_run k rest (omega arith) (λ j lt. none (suc j) (omega arith))))

pub decode_backslash : (rest : List ℕ) → decode (backslash ∷ rest) ≡ (escape rest).stands_for ++ decode (drop (escape rest).len rest)
unfolding decode_behind
decode_backslash rest = ap (λ (xs : List ℕ). (escape rest).stands_for ++ xs) (decode_behind-drop (escape rest).len rest)

-- ---- the end

ends_run : (k : ℕ) (bytes : List ℕ) → k ≤ length bytes → ((j : ℕ) → j < k → get_or bytes j 0 ≡ backslash → ⊥)
    → ends_escaping false bytes ≡ ends_escaping false (drop k bytes)
unfolding ends_escaping
ends_run zero bytes le none = refl
ends_run (suc k) [] le none = absurd (omega arith)
ends_run (suc k) (b ∷ rest) le none =
    let other : eqb b backslash ≡ false = ne_eqb b backslash (none 0 (omega arith)) in
    rw other (ends_run k rest (omega arith) (λ j lt. none (suc j) (omega arith)))

digits_run : (base most : ℕ) (bytes : List ℕ) → base ≤ 36 → (k : ℕ) → k ≤ length (front_digits base most bytes) → ends_escaping false bytes ≡ ends_escaping false (drop k bytes)
digits_run base most bytes le k fits =
    ends_run k bytes (omega (arith, front_le base most bytes)) (λ j lt. digit_no_backslash (get_or bytes j 0) base le (front_pass base most bytes j (omega arith)))

-- behind the first digit
more_digits_run : (base most : ℕ) (c : ℕ) (bytes : List ℕ) → base ≤ 36 → (k : ℕ) → suc k ≤ length (front_digits base most (c ∷ bytes)) → ends_escaping false bytes ≡ ends_escaping false (drop k bytes)
more_digits_run base most c bytes le k fits =
    ends_run k bytes (omega (arith, front_le base most (c ∷ bytes))) (λ j lt. digit_no_backslash (get_or bytes j 0) base le (front_pass base most (c ∷ bytes) (suc j) (omega arith)))

ends_first : (c : ℕ) (rest : List ℕ) → ends_escaping true (c ∷ rest) ≡ ends_escaping false rest
unfolding ends_escaping
ends_first c rest = refl

-- a function of what stands behind the first of a list
drop_first : (F : List ℕ → Bool) (c : ℕ) (rest : List ℕ) (n : ℕ) → 0 < n → F (drop (n - 1) rest) ≡ F (drop n (c ∷ rest))
drop_first F c rest zero lt = absurd (omega arith)
drop_first F c rest (suc n) lt = let e : suc n - 1 ≡ n = omega arith in rw e refl

-- an escape leaves nothing open
pub ends_escape : (c : ℕ) (rest : List ℕ) → ends_escaping true (c ∷ rest) ≡ ends_escaping false (drop (escape (c ∷ rest)).len (c ∷ rest))
ends_escape c rest =
    ends_first c rest ∙ elim (cases_lt 0 (length (front_digits 8 3 (c ∷ rest)))) [
      | inl some ↦
          rw (escape_octal (c ∷ rest) some) (more_digits_run 8 3 c rest (omega arith) (length (front_digits 8 3 (c ∷ rest)) - 1) (omega arith) ∙ drop_first (ends_escaping false) c rest (length (front_digits 8 3 (c ∷ rest))) some)
      | inr none ↦ elim (cases_Bool (eqb c 120)) [
        | inl is ↦ elim (cases_lt 0 (length (front_digits 16 2 rest))) [
          | inl some ↦
              rw (escape_hexadecimal (c ∷ rest) (omega arith) (eqb-true c 120 is) some) (digits_run 16 2 rest (omega arith) (length (front_digits 16 2 rest)) (omega arith) ∙ ap (λ (n : ℕ). ends_escaping false (drop n (c ∷ rest))) (sym (add-one (length (front_digits 16 2 rest)))))
          | inr alone ↦ rw (escape_letter (c ∷ rest) (omega arith) (omega arith) (inr (omega arith))) refl
        ]
        | inr another ↦ rw (escape_letter (c ∷ rest) (omega arith) (omega arith) (inl another)) refl
      ]
    ]

-- ---- the loop: what was found is the first backslash

pub decode_found : (bytes : List ℕ) (at : ℕ) → at < length bytes → Nowhere (Passes (is_byte backslash) bytes) 0 at → Passes (is_byte backslash) bytes at
    → decode bytes ≡ take at bytes ++ decode (backslash ∷ drop (at + 1) bytes)
decode_found bytes at lt none here =
    let first : drop at bytes ≡ backslash ∷ drop (at + 1) bytes = drop_more bytes at 0 lt ∙ ap (λ (b : ℕ). b ∷ drop (at + 1) bytes) (eqb-true _ _ here) in
    decode_run at bytes (omega arith) (λ j below is. none j (omega arith) below (eq-eqb _ _ is)) ∙ ap (λ (xs : List ℕ). take at bytes ++ decode xs) first

pub ends_found : (bytes : List ℕ) (at : ℕ) → at < length bytes → Nowhere (Passes (is_byte backslash) bytes) 0 at → Passes (is_byte backslash) bytes at
    → ends_escaping false bytes ≡ ends_escaping true (drop (at + 1) bytes)
unfolding ends_escaping
ends_found bytes at lt none here =
    let first : drop at bytes ≡ backslash ∷ drop (at + 1) bytes = drop_more bytes at 0 lt ∙ ap (λ (b : ℕ). b ∷ drop (at + 1) bytes) (eqb-true _ _ here) in
    ends_run at bytes (omega arith) (λ j below is. none j (omega arith) below (eq-eqb _ _ is)) ∙ ap (ends_escaping false) first

-- no backslash is left
pub decode_plain : (bytes : List ℕ) → Nowhere (Passes (is_byte backslash) bytes) 0 (length bytes) → decode bytes ≡ bytes
decode_plain bytes none =
    decode_run (length bytes) bytes (omega arith) (λ j below is. none j (omega arith) below (eq-eqb _ _ is)) ∙ rw (drop_all (length bytes) bytes (omega arith), take_all (length bytes) bytes (omega arith), decode_nil) (append-nil bytes)

pub ends_plain : (bytes : List ℕ) → Nowhere (Passes (is_byte backslash) bytes) 0 (length bytes) → false ≡ ends_escaping false bytes
unfolding ends_escaping
ends_plain bytes none =
    sym (ends_run (length bytes) bytes (omega arith) (λ j below is. none j (omega arith) below (eq-eqb _ _ is)) ∙ ap (ends_escaping false) (drop_all (length bytes) bytes (omega arith)))

-- the backslash is the last byte
pub decode_open : (front bytes : List ℕ) (at : ℕ) (rest : List ℕ) → at < length bytes → Nowhere (Passes (is_byte backslash) bytes) 0 at → Passes (is_byte backslash) bytes at
    → rest ≡ drop (at + 1) bytes → length rest ≡ 0 → front ++ take at bytes ≡ front ++ decode bytes
unfolding escape
decode_open front bytes at rest lt none here is ended =
    let nothing : drop (at + 1) bytes ≡ [] = sym is ∙ nil_from_length rest ended in
    let tail : decode (backslash ∷ []) ≡ [] = decode_backslash [] ∙ decode_nil in
    ap (λ (xs : List ℕ). front ++ xs) (sym (decode_found bytes at lt none here ∙ rw (nothing, tail) (append-nil (take at bytes))))

pub ends_open : (bytes : List ℕ) (at : ℕ) (rest : List ℕ) → at < length bytes → Nowhere (Passes (is_byte backslash) bytes) 0 at → Passes (is_byte backslash) bytes at
    → rest ≡ drop (at + 1) bytes → length rest ≡ 0 → true ≡ ends_escaping false bytes
unfolding ends_escaping
ends_open bytes at rest lt none here is ended =
    let nothing : drop (at + 1) bytes ≡ [] = sym is ∙ nil_from_length rest ended in
    sym (ends_found bytes at lt none here ∙ ap (ends_escaping true) nothing)

-- an escape was read
pub decode_more : (front bytes : List ℕ) (at byte len : ℕ) (rest : List ℕ) → at < length bytes → Nowhere (Passes (is_byte backslash) bytes) 0 at → Passes (is_byte backslash) bytes at
    → rest ≡ drop (at + 1) bytes → escape rest ≡ record { stands_for = byte ∷ []; len = len }
    → ((front ++ take at bytes) ++ byte ∷ []) ++ decode (drop len rest) ≡ front ++ decode bytes
decode_more front bytes at byte len rest lt none here is read =
    let tail : decode (backslash ∷ rest) ≡ byte ∷ decode (drop len rest) = decode_backslash rest ∙ ap (λ (e : Escape). e.stands_for ++ decode (drop e.len rest)) read in
    let whole : decode bytes ≡ take at bytes ++ byte ∷ decode (drop len rest) = decode_found bytes at lt none here ∙ rw (← is, tail) refl in
    rw whole (simp append_assoc)

pub ends_more : (bytes : List ℕ) (at byte len : ℕ) (rest : List ℕ) → at < length bytes → Nowhere (Passes (is_byte backslash) bytes) 0 at → Passes (is_byte backslash) bytes at
    → rest ≡ drop (at + 1) bytes → 0 < length rest → escape rest ≡ record { stands_for = byte ∷ []; len = len }
    → ends_escaping false (drop len rest) ≡ ends_escaping false bytes
ends_more bytes at byte len [] lt none here is some read = absurd (omega arith)
ends_more bytes at byte len (c ∷ rest) lt none here is some read =
    let past : ends_escaping true (c ∷ rest) ≡ ends_escaping false (drop len (c ∷ rest)) = ends_escape c rest ∙ ap (λ (e : Escape). ends_escaping false (drop e.len (c ∷ rest))) read in
    sym past ∙ ap (ends_escaping true) is ∙ sym (ends_found bytes at lt none here)
