-- Tokens that are told apart: key words, signs and numbers.
use Rattle.ddl_grammar_laws.proofs.Common.{◌≡◌, ℕ, Bool, true, false, not, ◌&&◌, ◌||◌, List, [], ◌∷◌, ◌++◌, refl, ap, ◌∙◌, arith, and_parts, not-true, str_eq_ignore_ascii_case, Lexeme, is_word, is_sign, Apart, words_apart, sign_no_word, any_word}

-- ---- one of several key words

abbrev differs : List ℕ → List (List ℕ) → Bool
differs key [] = true
differs key (other ∷ more) = not (str_eq_ignore_ascii_case key other) && differs key more

-- no word of one list is one of the other
abbrev pub all_differ : List (List ℕ) → List (List ℕ) → Bool
all_differ [] others = true
all_differ (key ∷ keys) others = differs key others && all_differ keys others

none_of : (key : List ℕ) (others : List (List ℕ)) → differs key others ≡ true → (t : Lexeme) → is_word key t ≡ true → any_word others t ≡ false
none_of key [] e t f = grind (arith, and_parts, any_word, words_apart, not-true)
none_of key (other ∷ more) e t f = grind (arith, and_parts, any_word, words_apart, not-true, (none_of key more))

pub words_differ : (keys others : List (List ℕ)) → all_differ keys others ≡ true → Apart (any_word keys) (any_word others)
words_differ [] others e = grind (arith, and_parts, any_word, none_of)
words_differ (key ∷ keys) others e = grind (arith, and_parts, any_word, none_of, (words_differ keys))

pub any-append : (keys others : List (List ℕ)) (t : Lexeme) → any_word (keys ++ others) t ≡ (any_word keys t || any_word others t)
any-append [] others t = refl
any-append (key ∷ keys) others t = ap (λ (b : Bool). is_word key t || b) (any-append keys others t) ∙ (grind arith)

pub sign_no_words : (b : ℕ) (keys : List (List ℕ)) → Apart (is_sign b) (any_word keys)
sign_no_words b [] t e = refl
sign_no_words b (key ∷ keys) t e = ap (λ (c : Bool). c || any_word keys t) (sign_no_word b key t e) ∙ sign_no_words b keys t e
