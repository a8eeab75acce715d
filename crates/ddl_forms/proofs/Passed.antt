-- What is passed over wherever it stands, whatever stands behind it: white space, and comments with the ends of their lines.
use Rattle.ddl_forms.proofs.Common.{◌≡◌, ℕ, ◌+◌, ◌<◌, true, false, List, [], ◌∷◌, ◌++◌, length, length-append, append_assoc, refl, sym, ap, ◌∙◌, inl, inr, arith, list_all, is_utf8, IsUtf8, chars, encode, scalar, low_scalar, cases_Bool, and_from, and_parts, nat_tests, list_all-append, IsUtf8-nil, IsUtf8-append, IsUtf8-from_is_utf8, is_utf8-from_IsUtf8, encode_ascii, is_blank, in_line, next_is, next_token_of, gap_is_passed, add_assoc}

-- from its front on the next token is the one behind it
abbrev pub Passed : List ℕ → Type 0
Passed g = (front rest : List ℕ) → next_token_of (front ++ (g ++ rest)) (length front) ≡ next_token_of (front ++ (g ++ rest)) (length front + length g)

pub both_passed : (a b : List ℕ) → Passed a → Passed b → Passed (a ++ b)
both_passed a b p q front rest = simp (append_assoc, length-append) (p front (b ++ rest) ∙ simp (append_assoc, length-append, add_assoc) at (q (front ++ a) rest))

-- ---- white space

one_byte : (b : ℕ) → b < 128 → IsUtf8 (b ∷ [])
one_byte b lt = (b ∷ [], (and_from (scalar b) true (low_scalar b (omega arith)) refl, ap (λ (r : List ℕ). r ++ []) (encode_ascii b lt)))

blanks_are_utf8 : (w : List ℕ) → list_all is_blank w ≡ true → IsUtf8 w
unfolding is_blank
blanks_are_utf8 [] e = IsUtf8-nil
blanks_are_utf8 (b ∷ w) e = IsUtf8-append (b ∷ []) w (one_byte b (grind (arith, nat_tests))) (blanks_are_utf8 w (and_parts (is_blank b) (list_all is_blank w) e).1)

-- the longest run of it ends before what is none
whole_run : (w rest front : List ℕ) → 0 < length w → list_all is_blank w ≡ true → next_is is_blank rest ≡ false → next_token_of (front ++ (w ++ rest)) (length front) ≡ next_token_of (front ++ (w ++ rest)) (length front + length w)
whole_run w rest front some all ends = gap_is_passed front w rest (inl ((some, all), ends)) (is_utf8-from_IsUtf8 w (blanks_are_utf8 w all))

-- a run of it, whatever stands behind it
run_passed : (w rest front : List ℕ) → 0 < length w → list_all is_blank w ≡ true → next_token_of (front ++ (w ++ rest)) (length front) ≡ next_token_of (front ++ (w ++ rest)) (length front + length w)
unfolding next_is
run_passed w [] front some all = whole_run w [] front some all refl
run_passed w (c ∷ rest) front some all = elim (cases_Bool (is_blank c)) [
  | inr isnt ↦ whole_run w (c ∷ rest) front some all isnt
  | inl is ↦
      let one : list_all is_blank (c ∷ []) ≡ true = and_from (is_blank c) true is refl in
      let longer : list_all is_blank (w ++ c ∷ []) ≡ true = list_all-append is_blank w (c ∷ []) ∙ and_from (list_all is_blank w) (list_all is_blank (c ∷ [])) all one in
      let to_end = simp (append_assoc, length-append) at (run_passed (w ++ c ∷ []) rest front (omega (arith, length-append w (c ∷ []))) longer) in
      to_end ∙ sym (simp (append_assoc, length-append, add_assoc) at (run_passed (c ∷ []) rest (front ++ w) (omega arith) one))
]

pub blanks_passed : (w : List ℕ) → 0 < length w → list_all is_blank w ≡ true → Passed w
blanks_passed w some all front rest = run_passed w rest front some all

pub feed_passed : Passed (10 ∷ [])
unfolding is_blank
feed_passed = blanks_passed (10 ∷ []) (omega arith) refl

-- ---- comments

-- a comment to the end of its line
pub comment_passed : (line : List ℕ) → list_all in_line line ≡ true → IsUtf8 line → Passed ((45 ∷ 45 ∷ line) ++ 10 ∷ [])
unfolding next_is in_line is_utf8 chars encode
comment_passed line all utf8 front rest =
    let word = 45 ∷ 45 ∷ line in
    let is : is_utf8 word ≡ true = is_utf8-from_IsUtf8 word (IsUtf8-append (45 ∷ 45 ∷ []) line (IsUtf8-from_is_utf8 (45 ∷ 45 ∷ []) refl) utf8) in
    let over = gap_is_passed front word (10 ∷ rest) (inr (inl ((line, all, refl), refl))) is in
    simp (append_assoc, length-append) (over ∙ simp (append_assoc, length-append, add_assoc) at (feed_passed (front ++ word) rest))
