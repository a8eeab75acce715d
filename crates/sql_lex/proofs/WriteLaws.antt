-- What is written is read back as one token that stands for the same bytes.
use Rattle.std.proofs.Common.{◌≡◌, ℕ, ◌+◌, ◌-◌, ◌/◌, ◌%◌, ◌<◌, ◌≤◌, true, false, not, cond, ◌||◌, ◌&&◌, List, [], ◌∷◌, ◌++◌, map, length, length-append, drop, take, Option, Some, None, Ok, refl, sym, ap, ◌∙◌, inl, inr, arith}
use Rattle.std.specs.Prelude.{◌==◌}
use Rattle.std.specs.List.{list_all}
use Rattle.std.specs.Char.{to_ascii_lowercase}
use Rattle.std.specs.Str.{is_utf8, IsUtf8}
use Rattle.std.proofs.Math.Utf8.{scalar, scalars, encode, encodes, low_scalar}
use Rattle.std.proofs.Common.{ltb}
use Rattle.std.proofs.lemmas.Bool.{cases_Bool, cases_eq, eq-eqb, ne_eqb, and_parts, and_from, or_left, or_right, or_cases}
use Rattle.std.proofs.lemmas.Bool.Decides.{nat_tests}
use Rattle.std.proofs.lemmas.List.{take_at, drop_at}
use Rattle.std.proofs.lemmas.Str.{is_utf8-from_IsUtf8, IsUtf8-append, encode_ascii}
use Rattle.sql_lex.specs.declared.token.TokenKind.{TokenKind}
use Rattle.sql_lex.specs.declared.token.TokenKind.TheVariants.{Literal, MetaLine}
use Rattle.sql_lex.specs.Bytes.{is_digit, begins_word, in_word, next_is}
use Rattle.sql_lex.specs.Pieces.{begins_line}
use Rattle.sql_lex.specs.Next.{next_token_of}
use Rattle.sql_lex.specs.Reserved.{is_reserved}
use Rattle.sql_lex.specs.Written.{begins_bare, in_bare, is_bare, doubled, quoted, written_name, written_literal}
use Rattle.sql_lex.specs.Meaning.{spelling, inside, undoubled, name_of, literal_of}
use Rattle.sql_lex.specs.Spelling.{Spells, IsWord, goes_on, IsGap, IsPiece}
use Rattle.sql_lex.specs.Answers.{SoundIn, nothing}
use Rattle.sql_lex.specs.ReadBack.{token_at, IsTokenAt, written_kind}
use Rattle.sql_lex.proofs.TextLaws.{next_only, sound_room, gap_same}

-- ---- any token

piece_of : (front word rest : List ℕ) (kind : Option TokenKind) → is_utf8 word ≡ true → IsPiece (begins_line (front ++ (word ++ rest)) (length front)) kind word rest → SoundIn (front ++ (word ++ rest)) kind (length front) (length front + length word)
piece_of front word rest kind utf8 h =
    record { piece = record { word = word; rest = rest; bytes = drop_at front (word ++ rest) (length front) refl; ends = refl; is = h }; utf8 = utf8 }

spelled_at : (front word rest : List ℕ) (kind : TokenKind) → spelling (front ++ (word ++ rest)) (token_at kind (length front) word) ≡ word
unfolding spelling
spelled_at front word rest kind =
    let len : length front + length word - length front ≡ length word = omega arith in
    ap (λ n. take n (drop (length front) (front ++ (word ++ rest)))) len ∙ ap (take (length word)) (drop_at front (word ++ rest) (length front) refl) ∙ take_at word rest (length word) refl

pub spelling_is_read : (front word rest : List ℕ) (kind : TokenKind) → Spells kind word → goes_on kind word rest ≡ false → is_utf8 word ≡ true → (kind ≡ MetaLine → begins_line (front ++ (word ++ rest)) (length front) ≡ true)
    → IsTokenAt (front ++ (word ++ rest)) (length front) kind word
spelling_is_read front word rest kind spells ends utf8 line =
    let s = piece_of front word rest (Some kind) utf8 (record { spells = spells; ends = ends; line = line }) in
    record {
      found = next_only (front ++ (word ++ rest)) (length front) (Ok (Some (token_at kind (length front) word))) (nothing (length front), sound_room _ _ _ _ s, s);
      spelled = spelled_at front word rest kind;
    }

pub gap_is_passed : (front word rest : List ℕ) → IsGap word rest → is_utf8 word ≡ true → next_token_of (front ++ (word ++ rest)) (length front) ≡ next_token_of (front ++ (word ++ rest)) (length front + length word)
gap_is_passed front word rest h utf8 = gap_same (front ++ (word ++ rest)) (length front) (length front + length word) (piece_of front word rest None utf8 h)

-- ---- quotes

doubled_other : (q b : ℕ) (rest : List ℕ) → (b ≡ q → ⊥) → doubled q (b ∷ rest) ≡ b ∷ doubled q rest
unfolding doubled
doubled_other q b rest e = rw (ne_eqb b q e) refl

doubled_same : (q : ℕ) (rest : List ℕ) → doubled q (q ∷ rest) ≡ q ∷ q ∷ doubled q rest
unfolding doubled
doubled_same q rest = rw (eq-eqb q q refl) refl

high : (q b : ℕ) (rest : List ℕ) → q < 128 → 128 ≤ b → doubled q (b ∷ rest) ≡ b ∷ doubled q rest
high q b rest lt le = doubled_other q b rest (λ (e : b ≡ q). omega arith)

-- a character that isn't the quote
doubled_char : (q c : ℕ) (rest : List ℕ) → q < 128 → (c ≡ q → ⊥) → doubled q (encode c ++ rest) ≡ encode c ++ doubled q rest
unfolding encode
doubled_char q c rest lt ne =
    elim (cases_Bool (ltb c 128)) [
      | inl one ↦ rw one (doubled_other q c rest ne)
      | inr n1 ↦
          elim (cases_Bool (ltb c 2048)) [
            | inl two ↦ rw (n1, two) (high q _ _ lt (omega arith) ∙ ap (λ (r : List ℕ). (192 + c / 64) ∷ r) (high q _ _ lt (omega arith)))
            | inr n2 ↦
                elim (cases_Bool (ltb c 65536)) [
                  | inl three ↦ rw (n1, n2, three) (high q _ _ lt (omega arith) ∙ ap (λ (r : List ℕ). (224 + c / 4096) ∷ r) (high q _ _ lt (omega arith) ∙ ap (λ (r : List ℕ). (128 + c / 64 % 64) ∷ r) (high q _ _ lt (omega arith))))
                  | inr n3 ↦ rw (n1, n2, n3) (high q _ _ lt (omega arith) ∙ ap (λ (r : List ℕ). (240 + c / 262144) ∷ r) (high q _ _ lt (omega arith) ∙ ap (λ (r : List ℕ). (128 + c / 4096 % 64) ∷ r) (high q _ _ lt (omega arith) ∙ ap (λ (r : List ℕ). (128 + c / 64 % 64) ∷ r) (high q _ _ lt (omega arith)))))
                ]
          ]
    ]

-- doubling a quote in the bytes is doubling it among the characters
doubled_chars : (q : ℕ) (cs : List ℕ) → q < 128 → scalars cs ≡ true → (scalars (doubled q cs) ≡ true) × (encodes (doubled q cs) ≡ doubled q (encodes cs))
unfolding doubled
doubled_chars q [] lt s = (refl, refl)
doubled_chars q (c ∷ cs) lt s =
    let parts = and_parts (scalar c) (scalars cs) s in
    let more = doubled_chars q cs lt parts.1 in
    elim (cases_eq c q) [
      | inl is ↦
          let sq : scalar q ≡ true = low_scalar q (omega arith) in
          let one : encode q ≡ q ∷ [] = encode_ascii q lt in
          rw (is, eq-eqb q q refl) (and_from (scalar q) (scalar q && scalars (doubled q cs)) sq (and_from (scalar q) (scalars (doubled q cs)) sq more.0), rw one (ap (λ (r : List ℕ). q ∷ q ∷ r) more.1 ∙ sym (doubled_same q (encodes cs))))
      | inr isnt ↦ rw (ne_eqb c q isnt) (and_from (scalar c) (scalars (doubled q cs)) parts.0 more.0, ap (λ (r : List ℕ). encode c ++ r) more.1 ∙ sym (doubled_char q c (encodes cs) lt isnt))
    ]

doubled_utf8 : (q : ℕ) (text : List ℕ) → q < 128 → IsUtf8 text → IsUtf8 (doubled q text)
doubled_utf8 q text lt (cs, (s, is)) = let h = doubled_chars q cs lt s in (doubled q cs, (h.0, h.1 ∙ ap (doubled q) is))

quote_utf8 : (q : ℕ) → q < 128 → IsUtf8 (q ∷ [])
quote_utf8 q lt = (q ∷ [], (and_from (scalar q) true (low_scalar q (omega arith)) refl, ap (λ (r : List ℕ). r ++ []) (encode_ascii q lt)))

quoted_utf8 : (q : ℕ) (text : List ℕ) → q < 128 → IsUtf8 text → is_utf8 (quoted q text) ≡ true
unfolding quoted
quoted_utf8 q text lt h =
    let mark = quote_utf8 q lt in
    is_utf8-from_IsUtf8 _ (IsUtf8-append (q ∷ []) (doubled q text ++ q ∷ []) mark (IsUtf8-append (doubled q text) (q ∷ []) (doubled_utf8 q text lt h) mark))

undoubled_doubled : (q : ℕ) (text : List ℕ) → undoubled q false (doubled q text) ≡ text
unfolding undoubled doubled
undoubled_doubled q [] = refl
undoubled_doubled q (b ∷ text) =
    elim (cases_eq b q) [
      | inl is ↦ rw (is, eq-eqb q q refl) (rw (eq-eqb q q refl) (ap (λ (r : List ℕ). q ∷ r) (undoubled_doubled q text)))
      | inr isnt ↦ rw (ne_eqb b q isnt) (rw (ne_eqb b q isnt) (ap (λ (r : List ℕ). b ∷ r) (undoubled_doubled q text)))
    ]

inside_quotes : (q : ℕ) (text : List ℕ) → inside (quoted q text) ≡ doubled q text
unfolding inside quoted
inside_quotes q text =
    let sum = length-append (doubled q text) (q ∷ []) in
    let len : length (q ∷ (doubled q text ++ q ∷ [])) - 2 ≡ length (doubled q text) = omega arith in
    ap (λ n. take n (doubled q text ++ q ∷ [])) len ∙ take_at (doubled q text) (q ∷ []) (length (doubled q text)) refl

-- ---- names

bare_begins : (b : ℕ) → begins_bare b ≡ true → begins_word b ≡ true
unfolding begins_bare begins_word
bare_begins b e = grind (arith, nat_tests)

bare_goes_on : (b : ℕ) → in_bare b ≡ true → in_word b ≡ true
unfolding in_bare in_word
bare_goes_on b e =
    elim (or_cases (begins_bare b) (is_digit b) e) [
      | inl is ↦ or_left (begins_word b || is_digit b) (b == 36) (or_left (begins_word b) (is_digit b) (bare_begins b is))
      | inr is ↦ or_left (begins_word b || is_digit b) (b == 36) (or_right (begins_word b) (is_digit b) is)
    ]

bare_small : (b : ℕ) → in_bare b ≡ true → to_ascii_lowercase b ≡ b
unfolding in_bare begins_bare is_digit
bare_small b e = grind (arith, nat_tests)

begins_is : (b : ℕ) → begins_bare b ≡ true → in_bare b ≡ true
unfolding in_bare
begins_is b e = or_left (begins_bare b) (is_digit b) e

all_in_word : (word : List ℕ) → list_all in_bare word ≡ true → list_all in_word word ≡ true
all_in_word [] e = refl
all_in_word (b ∷ word) e = let parts = and_parts (in_bare b) (list_all in_bare word) e in and_from (in_word b) (list_all in_word word) (bare_goes_on b parts.0) (all_in_word word parts.1)

all_small : (word : List ℕ) → list_all in_bare word ≡ true → map to_ascii_lowercase word ≡ word
all_small [] e = refl
all_small (b ∷ word) e = let parts = and_parts (in_bare b) (list_all in_bare word) e in ap (λ c. c ∷ map to_ascii_lowercase word) (bare_small b parts.0) ∙ ap (λ (r : List ℕ). b ∷ r) (all_small word parts.1)

bare_word : (name : List ℕ) → is_bare name ≡ true → IsWord name × (map to_ascii_lowercase name ≡ name)
unfolding is_bare
bare_word [] e = absurd cc
bare_word (b ∷ rest) e =
    let parts = and_parts (begins_bare b) (list_all in_bare rest) e in
    ((bare_begins b parts.0, all_in_word rest parts.1), all_small (b ∷ rest) (and_from (in_bare b) (list_all in_bare rest) (begins_is b parts.0) parts.1))

-- what is known of a written name
pub record IsWrittenName (kind : TokenKind) (word name : List ℕ) : Type 0 where
  pub spells : Spells kind word
  pub utf8 : is_utf8 word ≡ true
  pub means : name_of kind word ≡ Some name
  pub word_kind : kind ≡ MetaLine → ⊥

name_written : (name : List ℕ) → IsUtf8 name → IsWrittenName (written_kind name) (written_name name) name
unfolding written_kind written_name name_of
name_written name utf8 =
    elim (cases_Bool (is_bare name && not (is_reserved name))) [
      | inl is ↦ let word = bare_word name (and_parts (is_bare name) (not (is_reserved name)) is).0 in
          rw is (record { spells = word.0; utf8 = is_utf8-from_IsUtf8 name utf8; means = ap (λ (n : List ℕ). Some n) word.1; word_kind = λ e. cc })
      | inr isnt ↦
          rw isnt (record { spells = (name, refl); utf8 = quoted_utf8 34 name (omega arith) utf8; means = ap (λ (n : List ℕ). Some n) (ap (undoubled 34 false) (inside_quotes 34 name) ∙ undoubled_doubled 34 name); word_kind = λ e. cc })
    ]

pub name_is_read : (front name rest : List ℕ) → IsUtf8 name → goes_on (written_kind name) (written_name name) rest ≡ false
    → IsTokenAt (front ++ (written_name name ++ rest)) (length front) (written_kind name) (written_name name) × (name_of (written_kind name) (written_name name) ≡ Some name)
name_is_read front name rest utf8 ends =
    let h = name_written name utf8 in
    (spelling_is_read front (written_name name) rest (written_kind name) h.spells ends h.utf8 (λ e. absurd (h.word_kind e)), h.means)

-- ---- literals

begins_quote : (q : ℕ) (text : List ℕ) → next_is (λ b. b == q) (quoted q text) ≡ true
unfolding next_is quoted
begins_quote q text = eq-eqb q q refl

literal_means : (text : List ℕ) → literal_of Literal (quoted 39 text) ≡ Some text
unfolding literal_of
literal_means text = ap (λ (r : List ℕ). cond (next_is (λ b. b == 39) (quoted 39 text)) (Some (undoubled 39 false r)) None) (inside_quotes 39 text) ∙ ap (λ (r : List ℕ). cond (next_is (λ b. b == 39) (quoted 39 text)) (Some r) None) (undoubled_doubled 39 text) ∙ rw (begins_quote 39 text) refl

pub literal_is_read : (front text rest : List ℕ) → IsUtf8 text → goes_on Literal (written_literal text) rest ≡ false
    → IsTokenAt (front ++ (written_literal text ++ rest)) (length front) Literal (written_literal text) × (literal_of Literal (written_literal text) ≡ Some text)
unfolding written_literal
literal_is_read front text rest utf8 ends =
    (spelling_is_read front (quoted 39 text) rest Literal (inl (text, refl)) ends (quoted_utf8 39 text (omega arith) utf8) (λ e. absurd cc), literal_means text)
