-- The tokens of which written statements are made, and that each stands wherever it is put.
use Rattle.ddl_forms.proofs.Common.{name_in_is, ◌≡◌, ◌≢◌, ℕ, Bool, true, false, not, ◌&&◌, List, [], ◌∷◌, ◌++◌, length, Some, Ok, ◌||◌, refl, sym, ap, ◌∙◌, arith, inl, inr, ◌==◌, nat_lt, list_any, AllByRecursion as ByRecursion, is_utf8, IsUtf8, chars, str_to_ascii_lowercase, str_eq_ignore_ascii_case, bytes_eq-Decides, encode, cases_Bool, and_parts, or_parts, ne_eqb, nat_tests, recursion_from_All, is_utf8-from_IsUtf8, IsUtf8-from_is_utf8, TokenKind, Word, QuotedName, Literal, Sign, is_blank, is_digit, begins_word, in_word, next_is, IsWord, goes_on, name_of, is_keyword_of, is_reserved, begins_bare, is_bare, quoted, written_name, written_literal, IsTokenAt, written_kind, word_free, spelling_is_read, name_is_read, literal_is_read, IsName, Lexeme, is_word, is_sign_kind, name_in, name_value, text_in, literal_value, and_false}
use Rattle.sql_lex.specs.Bytes.{is_sign}
use Rattle.ddl_forms.proofs.{Standing.GapStands, Standing.Stands, Behind.Words, Behind.admits, Kept.Begun, Kept.begun_some, Kept.safe_ends, Passed.Passed, Passed.blanks_passed}

-- ---- the tokens

abbrev pub word_token : List ℕ → List ℕ → Lexeme
word_token gap w = record { gap = gap; kind = Word; word = w; start = 0 }

abbrev pub sign_token : List ℕ → ℕ → Lexeme
sign_token gap b = record { gap = gap; kind = Sign b; word = b ∷ []; start = 0 }

abbrev pub name_token : List ℕ → List ℕ → Lexeme
name_token gap n = record { gap = gap; kind = written_kind n; word = written_name n; start = 0 }

abbrev is_spoken : TokenKind → Bool
is_spoken Word = true
is_spoken QuotedName = true
is_spoken Literal = true
is_spoken _ = false

-- ---- each token behind no gap or white space

-- a line feed and four spaces
abbrev pub indent : List ℕ
indent = 10 ∷ 32 ∷ 32 ∷ 32 ∷ 32 ∷ []

-- what a gap before a token may be
pub data Gap : List ℕ → Type 0 where
  none : Gap []
  space : Gap (32 ∷ [])
  newline : Gap (10 ∷ [])
  spaced : Gap (10 ∷ 32 ∷ [])
  indented : Gap indent
  tabbed : Gap (10 ∷ 9 ∷ [])
  passed : (g : List ℕ) → Passed g → Gap g

-- it is passed over
pub passes : (g : List ℕ) → Gap g → Passed g
unfolding is_blank
passes g gap = grind (arith, blanks_passed)

pub gap_stands : (g word rest : List ℕ) → Gap g → Begun word → GapStands g (word ++ rest)
gap_stands g word rest gap begun front after safe = passes g gap front ((word ++ rest) ++ after)

pub word_begun : (w : List ℕ) → IsWord w → Begun w
word_begun w h = grind (arith, word_free)

-- what is read of a word before what doesn't go on with it stands before what parts words
spoken_stands : {g : List ℕ} (kind : TokenKind) (word rest : List ℕ) → is_spoken kind ≡ true → Gap g → Begun word → admits Words rest ≡ true → ((front after : List ℕ) → goes_on kind word after ≡ false → IsTokenAt (front ++ (word ++ after)) (length front) kind word)
    → Stands (record { gap = g; kind = kind; word = word; start = 0 }) rest
unfolding goes_on next_is in_word begins_word is_digit
spoken_stands kind word rest is gap begun e reads = grind (arith, gap_stands, begun_some, nat_tests, safe_ends, and_false)

pub a_word : {g : List ℕ} (w rest : List ℕ) → Gap g → IsWord w → is_utf8 w ≡ true → admits Words rest ≡ true → Stands (word_token g w) rest
a_word w rest gap word utf8 e = spoken_stands Word w rest refl gap (word_begun w word) e (λ front after ends. spelling_is_read front w after Word word ends utf8 (λ f. absurd cc))

pub a_name : {g : List ℕ} (n rest : List ℕ) → Gap g → IsUtf8 n → admits Words rest ≡ true → Stands (name_token g n) rest
unfolding begins_bare is_bare is_blank quoted written_name written_kind
a_name n rest gap utf8 e =
    let kind_spoken : (n : List ℕ) → is_spoken (written_kind n) ≡ true = λ n. elim (cases_Bool (is_bare n && not (is_reserved n))) [ inl is ↦ rw is refl | inr isnt ↦ rw isnt refl ] in
    spoken_stands (written_kind n) (written_name n) rest (kind_spoken n) gap (grind arith) e (λ front after ends. (name_is_read front n after utf8 ends).0)

pub a_literal : {g : List ℕ} (t rest : List ℕ) → Gap g → IsUtf8 t → admits Words rest ≡ true → Stands (record { gap = g; kind = Literal; word = written_literal t; start = 0 }) rest
unfolding written_literal quoted is_blank
a_literal t rest gap utf8 e = spoken_stands Literal (written_literal t) rest refl gap refl e (λ front after ends. (literal_is_read front t after utf8 ends).0)

-- a sign with which nothing goes on
unfoldable pub is_single : ℕ → Bool
unfolding is_sign is_blank is_utf8 chars encode
is_single b = is_sign b && (is_utf8 (b ∷ []) && not (is_blank b || (b == 45 || b == 47)))

pub a_sign : {g : List ℕ} (b : ℕ) (rest : List ℕ) → Gap g → is_single b ≡ true → Stands (sign_token g b) rest
unfolding is_single goes_on
a_sign {g} b rest gap e = record {
  gap = gap_stands g (b ∷ []) rest gap (grind (arith, and_parts, or_parts));
  token = λ front after safe. spelling_is_read front (b ∷ []) (rest ++ after) (Sign b) (grind (arith, and_parts), refl) (grind (arith, and_parts, or_parts)) (grind (arith, and_parts)) (λ f. absurd cc);
  some = omega arith;
}

-- ---- what names and literals mean

no_zeros_by : (bytes : List ℕ) → ByRecursion (λ b. b ≢ 0) bytes → list_any (λ b. b == 0) bytes ≡ false
no_zeros_by [] all = refl
no_zeros_by (b ∷ bytes) all = rw (ne_eqb b 0 all.0) (no_zeros_by bytes all.1)

named : (bytes : List ℕ) → IsName bytes → name_in (Some bytes) ≡ Ok bytes
unfolding name_in
named bytes h =
    let some : (length bytes == 0) ≡ false = ne_eqb (length bytes) 0 (λ e. let s = h.some in omega arith) in
    let short : nat_lt 63 (length bytes) ≡ false = let s = h.short in grind (arith, nat_tests) in
    rw (some, no_zeros_by bytes (recursion_from_All (λ b. b ≢ 0) bytes h.no_zero), short, is_utf8-from_IsUtf8 bytes h.utf8) refl

-- what the written name means, whatever stands before it
pub name_means : (n : List ℕ) → IsName n → (t : Lexeme) → t.kind ≡ written_kind n → t.word ≡ written_name n → name_value t ≡ Ok n
unfolding name_value goes_on next_is in_word begins_word is_digit
name_means n h t kind word = rw (kind, word, (name_is_read [] n [] h.utf8 (grind (arith, nat_tests, safe_ends, and_false))).1) (named n h)

pub literal_means : (x : List ℕ) → IsUtf8 x → (t : Lexeme) → t.kind ≡ Literal → t.word ≡ written_literal x → literal_value t ≡ Ok x
unfolding literal_value goes_on next_is text_in
literal_means x utf8 t kind word = rw (kind, word, (literal_is_read [] x [] utf8 refl).1, is_utf8-from_IsUtf8 x utf8) refl

-- a written name is no sign
pub name_no_sign : (b : ℕ) (n : List ℕ) → is_sign_kind b (written_kind n) ≡ false
unfolding written_kind
name_no_sign b n = elim (cases_Bool (is_bare n && not (is_reserved n))) [ inl is ↦ rw is refl | inr isnt ↦ rw isnt refl ]

bare_is_small : (n : List ℕ) → IsUtf8 n → (is_bare n && not (is_reserved n)) ≡ true → str_to_ascii_lowercase n ≡ n
unfolding written_kind written_name name_of goes_on next_is in_word begins_word is_digit
bare_is_small n utf8 is = let e : name_of Word n ≡ Some n = rw is at (name_is_read [] n [] utf8 (grind (arith, nat_tests, safe_ends, and_false))).1 in cc

-- a written name is no reserved word
name_no_word : (key n : List ℕ) → IsUtf8 n → is_reserved (str_to_ascii_lowercase key) ≡ true → is_keyword_of (written_kind n) (written_name n) key ≡ false
unfolding written_kind written_name is_keyword_of
name_no_word key n utf8 reserved = elim (cases_Bool (is_bare n && not (is_reserved n))) [ inl is ↦ rw is (bare is) | inr isnt ↦ rw isnt refl ]
  where
    same : (is_bare n && not (is_reserved n)) ≡ true → str_eq_ignore_ascii_case n key ≡ true → is_reserved n ≡ true
    same is e = ap is_reserved (sym (bare_is_small n utf8 is) ∙ (bytes_eq-Decides (str_to_ascii_lowercase n) (str_to_ascii_lowercase key)).0 e) ∙ reserved

    bare : (is_bare n && not (is_reserved n)) ≡ true → str_eq_ignore_ascii_case n key ≡ false
    bare e = grind (arith, and_parts, same)

pub no_key : (key n : List ℕ) → IsUtf8 n → is_reserved (str_to_ascii_lowercase key) ≡ true → (t : Lexeme) → t.kind ≡ written_kind n → t.word ≡ written_name n → is_word key t ≡ false
unfolding is_word
no_key key n utf8 reserved t kind word = rw (kind, word) (name_no_word key n utf8 reserved)

-- ---- what was read

pub value_name : (t : Lexeme) (n : List ℕ) → name_value t ≡ Ok n → IsName n
unfolding name_value
value_name t n e = (name_in_is (name_of t.kind t.word) n e).1

pub text_value : (t : Lexeme) (v : List ℕ) → literal_value t ≡ Ok v → IsUtf8 v
unfolding literal_value text_in
text_value t v e = grind (arith, IsUtf8-from_is_utf8)
