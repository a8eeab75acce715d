-- The laws of words, signs, names and literals; key words that differ are told apart.
use Rattle.ddl_part_laws.proofs.Common.{◌≡◌, ℕ, Bool, true, false, List, [], refl, codes, eq-eqb, arith, str_eq_ignore_ascii_case, str_to_ascii_lowercase, is_utf8, chars, encode, bytes_eq-Decides, next_is, name_of, literal_of, is_keyword_of, undoubled, inside, Lexeme, is_word, is_sign, Part, choose, ◌▸◌, ◌◂◌, Lawful, Begins, Avoids, Apart, name, name_value, name_in, is_name, literal, literal_value, text_in, is_literal, qualified, path_value}
use Rattle.ddl_part_laws.proofs.{Steps.avoids_never, Steps.avoids_begun, Shorter.is_far, Shorter.word_agrees, Shorter.sign_agrees, Shorter.name_shortens, Simple.one_laws, Simple.seen_laws, Simple.seen_begins, Sequence.then_laws, Sequence.then_begins, Sequence.lead_laws, Sequence.close_laws, Shorter.no_long_text, Shorter.word_no_text}
use Rattle.ddl_parts.proofs.Basics.{a_word, a_literal, words_apart, a_sign}

-- ---- tokens that stand for something

pub word_is : (key : List ℕ) → is_word key (a_word key) ≡ true
unfolding is_word is_keyword_of
word_is key = (bytes_eq-Decides (str_to_ascii_lowercase key) (str_to_ascii_lowercase key)).1 refl

pub sign_is : (b : ℕ) → is_sign b (a_sign b) ≡ true
unfolding is_sign
sign_is b = eq-eqb b b refl

pub name_laws : Lawful name
unfolding name_value name_in name_of is_utf8 chars encode
name_laws = one_laws name_value name_shortens (a_word (codes "a")) (codes "a") refl

pub literal_laws : Lawful literal
unfolding literal_value text_in literal_of undoubled inside next_is is_utf8 chars encode path_value
literal_laws = one_laws literal_value (record { long = λ t e. absurd (no_long_text t e); none = λ t h f. (grind (arith, word_no_text)) }) a_literal [] refl

pub name_begins : Begins is_name name
unfolding is_name name_value name_in name_of
name_begins = grind arith

pub literal_begins : Begins is_literal literal
unfolding is_literal literal_value text_in literal_of
literal_begins = grind arith

-- ---- a word or a sign before a part, or behind it

pub word_laws : {A : Type 0} (key : List ℕ) → is_far key ≡ true → (p : Part A) → Lawful p → Lawful (is_word key ▸ p)
word_laws key far p lp = lead_laws (is_word key) (word_agrees key far) (a_word key) p (word_is key) lp

pub sign_laws : {A : Type 0} (b : ℕ) (p : Part A) → Lawful p → Lawful (is_sign b ▸ p)
sign_laws b p lp = lead_laws (is_sign b) (sign_agrees b) (a_sign b) p (sign_is b) lp

-- behind a part that never goes on
pub ended_laws : {A : Type 0} (b : ℕ) (p : Part A) → Lawful p → Apart (is_sign b) p.goes_on → Lawful (p ◂ is_sign b)
ended_laws b p lp apart = close_laws p (is_sign b) (sign_agrees b) (a_sign b) (sign_is b) lp apart

pub qualified_laws : Lawful qualified
qualified_laws = search (seen_laws, then_laws, name_laws, sign_laws, avoids_never, arith)

pub qualified_begins : Begins is_name qualified
qualified_begins = search (seen_begins, then_begins, name_begins, arith)

-- ---- tokens that are told apart

pub word_no_sign : (key : List ℕ) (b : ℕ) → Apart (is_word key) (is_sign b)
unfolding is_word is_sign is_keyword_of
word_no_sign key b t e = grind arith

-- ---- one of two parts that both avoid some tokens

pub choose_avoids : {A : Type 0} (test which : Lexeme → Bool) (p q : Part A) → Avoids test p → Avoids test q → Avoids test (choose which p q)
choose_avoids test which p q a b = grind arith

-- what begins with one word doesn't begin with another
pub word_avoids : {A : Type 0} (other key : List ℕ) (p : Part A) → str_eq_ignore_ascii_case key other ≡ false → Begins (is_word key) p → Avoids (is_word other) p
word_avoids other key p differ begins = avoids_begun (is_word key) (is_word other) p begins (words_apart key other differ)
