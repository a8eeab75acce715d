-- Tokens that are told apart, by their kinds and words.
use Rattle.ddl_part_laws.proofs.Common.{◌≡◌, ℕ, Bool, true, false, ◌||◌, List, [], ◌∷◌, ◌++◌, refl, ap, ◌∙◌, arith, ◌==◌, list_any, str_eq_ignore_ascii_case, TokenKind, is_keyword_of, Lexeme, is_word, is_sign, is_sign_kind, never, starts, Part, nothing, Apart, Avoids, Begins, is_name, is_name_kind, is_literal, is_literal_kind, type_goes_on, is_type_word, is_word_kind, stop_words}
use Rattle.ddl_part_laws.proofs.{Steps.starts_more, Leads.word_no_sign}
pub use Rattle.ddl_parts.proofs.Basics.{same_by}
use Rattle.ddl_parts.proofs.Basics.{and_false}

-- what goes on with no token is followed by anything
pub free : (test : Lexeme → Bool) → Apart test never
free test t e = refl

pub starts_none : (test : Lexeme → Bool) → ((t : Lexeme) → test t ≡ false) → (ts : List Lexeme) → starts test ts ≡ false
starts_none test h ts = grind arith

pub avoids_where : {A : Type 0} (test : Lexeme → Bool) (p : Part A) → ((t : Lexeme) → test t ≡ false) → Avoids test p
avoids_where test p none v ts rest spells free = starts_none test none (ts ++ rest)

-- ---- tokens that are told apart

pub one_of_words : (key : List ℕ) (t : Lexeme) → is_word key t ≡ true → (ws : List (List ℕ)) → list_any (λ w. is_word w t) ws ≡ list_any (λ w. str_eq_ignore_ascii_case key w) ws
unfolding is_word
one_of_words key t e [] = refl
one_of_words key t e (w ∷ ws) = ap (λ (b : Bool). b || list_any (λ w. is_word w t) ws) (same_by t.kind t.word key w e) ∙ ap (λ (b : Bool). str_eq_ignore_ascii_case key w || b) (one_of_words key t e ws)

-- a word that ends a type
pub stop_no_type : (key : List ℕ) → list_any (λ w. str_eq_ignore_ascii_case key w) stop_words ≡ true → Apart (is_word key) type_goes_on
unfolding type_goes_on is_type_word
stop_no_type key stops t e = rw (one_of_words key t e stop_words ∙ stops, word_no_sign key 46 t e, word_no_sign key 40 t e, word_no_sign key 91 t e) (let n = and_false (is_word_kind t.kind) in rw n refl)

pub sign_no_word : (b : ℕ) (key : List ℕ) → Apart (is_sign b) (is_word key)
unfolding is_sign is_word is_keyword_of
sign_no_word b key t e = grind arith

pub signs_apart : (a b : ℕ) → (b == a) ≡ false → Apart (is_sign a) (is_sign b)
unfolding is_sign
signs_apart a b differ t e = grind arith

pub sign_kind_by : (k : TokenKind) (b : ℕ) → is_sign_kind b k ≡ true → (is_name_kind k ≡ false) × (is_literal_kind k ≡ false) × (is_word_kind k ≡ false)
sign_kind_by k b e = grind arith

pub sign_no_name : (b : ℕ) → Apart (is_sign b) is_name
unfolding is_sign is_name
sign_no_name b t e = (sign_kind_by t.kind b e).0

pub sign_no_literal : (b : ℕ) → Apart (is_sign b) is_literal
unfolding is_sign is_literal
sign_no_literal b t e = (sign_kind_by t.kind b e).1

pub sign_no_type : (b : ℕ) → (46 == b) ≡ false → (40 == b) ≡ false → (91 == b) ≡ false → Apart (is_sign b) type_goes_on
unfolding type_goes_on is_type_word is_sign
sign_no_type b dot round square = grind arith

pub word_is_name : (key : List ℕ) (t : Lexeme) → is_word key t ≡ true → is_name t ≡ true
unfolding is_word is_name is_keyword_of
word_is_name key t e = grind arith

pub begins_more : {A : Type 0} (test other : Lexeme → Bool) (p : Part A) → ((t : Lexeme) → test t ≡ true → other t ≡ true) → Begins test p → Begins other p
begins_more test other p more begins v ts spells = starts_more test other more ts (begins v ts spells)

pub nothing_avoids_some : {A : Type 0} (more test : Lexeme → Bool) (v : A) → ((t : Lexeme) → more t ≡ false → test t ≡ false) → Avoids test (nothing more v)
nothing_avoids_some more test v none w ts rest spells free = ap (λ (f : List Lexeme). starts test (f ++ rest)) spells.1 ∙ (grind arith)
