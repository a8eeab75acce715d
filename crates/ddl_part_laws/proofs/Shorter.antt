-- A token that is too long and a shorter one in its place pass the same tests, and which of their values there are.
use Rattle.ddl_part_laws.proofs.Common.{◌≡◌, ℕ, Bool, true, false, not, cond, ◌&&◌, List, length, Some, Result, Ok, Err, refl, sym, ap, ◌∙◌, inl, inr, bytes_eq, codes, arith, nat_lt, str_eq_ignore_ascii_case, str_to_ascii_lowercase, is_utf8, chars, encode, and_parts, not-true, bytes_eq-Decides, TokenKind, Word, QuotedName, name_of, literal_of, is_keyword_of, undoubled, inside, Lexeme, is_word, is_sign, name_in, name_value, is_name, text_in, literal_value, is_literal, IsTooLong, shortened, short_word, path_value, is_number_kind}
use Rattle.ddl_part_laws.proofs.{Steps.Agrees, Simple.Shortens}

-- ---- tests

-- a key word that is no short name, and is short itself
abbrev pub is_far : List ℕ → Bool
is_far key = not (nat_lt 63 (length (str_to_ascii_lowercase key))) && not (str_eq_ignore_ascii_case (codes "a") key)

long_bytes : (bytes : List ℕ) → name_in (Some bytes) ≡ Err true → nat_lt 63 (length bytes) ≡ true
unfolding name_in
long_bytes bytes e = grind arith

word_by : (k : TokenKind) (w key : List ℕ) → is_far key ≡ true → name_in (name_of k w) ≡ Err true → is_keyword_of k (short_word k) key ≡ is_keyword_of k w key
unfolding is_keyword_of name_of
word_by Word w key far e =
    let h : (not (nat_lt 63 (length (str_to_ascii_lowercase key))) ≡ true) × (not (str_eq_ignore_ascii_case (codes "a") key) ≡ true) = and_parts _ _ far in
    let same : bytes_eq (str_to_ascii_lowercase w) (str_to_ascii_lowercase key) ≡ true → nat_lt 63 (length (str_to_ascii_lowercase key)) ≡ true =
    λ is. sym (ap (λ (x : List ℕ). nat_lt 63 (length x)) ((bytes_eq-Decides (str_to_ascii_lowercase w) (str_to_ascii_lowercase key)).0 is)) ∙ long_bytes (str_to_ascii_lowercase w) e in
    not-true _ h.1 ∙ sym (grind (arith, same))
word_by x w key far e = refl

pub word_agrees : (key : List ℕ) → is_far key ≡ true → Agrees (is_word key)
unfolding is_word name_value path_value literal_value is_keyword_of literal_of text_in
word_agrees key far t (inl e) = word_by t.kind t.word key far e
word_agrees key far t (inr e) = grind arith

pub sign_agrees : (b : ℕ) → Agrees (is_sign b)
unfolding is_sign
sign_agrees b t long = refl

-- the same of any word and any sign, for a call of simp
pub word_like : (t : Lexeme) → IsTooLong t → (key : List ℕ) → is_far key ≡ true → is_word key (shortened t) ≡ is_word key t
word_like t long key far = word_agrees key far t long

pub sign_like : (t : Lexeme) (b : ℕ) → is_sign b (shortened t) ≡ is_sign b t
unfolding is_sign
sign_like t b = refl

pub name_agrees : Agrees is_name
unfolding is_name
name_agrees t long = refl

pub literal_agrees : Agrees is_literal
unfolding is_literal
literal_agrees t long = refl

pub long_no_number : (t : Lexeme) → IsTooLong t → is_number_kind t.kind ≡ false
unfolding name_value path_value literal_value name_in name_of literal_of text_in
long_no_number t long = grind arith

-- ---- values

name_short : (k : TokenKind) (w : List ℕ) → name_in (name_of k w) ≡ Err true → (v : List ℕ) × (name_in (name_of k (short_word k)) ≡ Ok v)
unfolding name_in name_of undoubled inside is_utf8 chars encode
name_short Word w e = (codes "a", refl)
name_short QuotedName w e = (codes "a", refl)
name_short x w e = absurd cc

pub name_shortens : Shortens name_value
unfolding name_value path_value literal_value name_in name_of literal_of text_in
name_shortens = record { long = λ t e. (inl e, name_short t.kind t.word e); none = λ t long f. (grind arith) }

pub no_long_text : (t : Lexeme) → literal_value t ≡ Err true → ⊥
unfolding literal_value text_in
no_long_text t e = grind arith

-- no short name is a literal
pub word_no_text : (t : Lexeme) → name_value t ≡ Err true → literal_value (shortened t) ≡ Err false
unfolding name_value literal_value name_in name_of literal_of text_in
word_no_text t e = grind arith

-- a value that a test lets through, or keeps
pub guarded_shortens : {A : Type 0} (test : Lexeme → Bool) (given kept value : Lexeme → Result A Bool) → Agrees test → Shortens given → Shortens kept → ((t : Lexeme) → value t ≡ cond (test t) (given t) (kept t)) → Shortens value
guarded_shortens test given kept value agrees y n is = grind arith

pub refused_shortens : {A : Type 0} → Shortens (λ t. (let r : Result A Bool = Err false in r))
refused_shortens = record { long = λ t e. absurd cc; none = λ t l e. refl }
