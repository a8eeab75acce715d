-- What laws, readers and texts of parts all start from.
use Rattle.ddl_parts.proofs.Common.{◌≡◌, Bool, true, false, List, [], ◌∷◌, Ok, refl, ap, arith, Lexeme, Reading, Apart, Result, Err, cond, ◌∙◌, AllByRecursion, ◌≢◌, list_any, ◌==◌, or_parts, nat_tests, length, nat_lt, IsName, IsUtf8-from_is_utf8, All-from_recursion, Option, Some, ℕ, bytes_eq, str_eq_ignore_ascii_case, str_to_ascii_lowercase, is_utf8, bytes_eq-Decides, TokenKind, Word, Literal, Sign, is_keyword_of, is_word, name_in, None, Machine, run, Bracket, Spot, Nest, ◌&&◌, zero, suc, ◌<◌}

-- a value that was read, and the rest
abbrev pub gives : {A : Type 0} → A → List Lexeme → Reading A
gives v rest = Ok (v, rest)

pub value_is : {A : Type 0} (v w : A) (rest other : List Lexeme) → gives v rest ≡ gives w other → v ≡ w
value_is {A} v w rest other e = ap (λ (x : A × List Lexeme). x.0) {x = (v, rest)} {y = (w, other)} (cc)

abbrev pub passes_by : Bool → Result (Unit {0}) Bool
passes_by b = cond b (Ok tt) (Err false)

pub passes_true : (v : Unit {0}) (b : Bool) → passes_by b ≡ Ok v → b ≡ true
passes_true v b e = grind arith

abbrev pub a_word : List ℕ → Lexeme
a_word key = record { gap = 32 ∷ []; kind = Word; word = key; start = 0 }

abbrev pub a_sign : ℕ → Lexeme
a_sign b = record { gap = []; kind = Sign b; word = b ∷ []; start = 0 }

abbrev pub a_literal : Lexeme
a_literal = record { gap = 32 ∷ []; kind = Literal; word = 39 ∷ 39 ∷ []; start = 0 }

-- ---- a name that was read

no_zero : (bytes : List ℕ) → list_any (λ b. b == 0) bytes ≡ false → AllByRecursion (λ b. b ≢ 0) bytes
no_zero [] e = tt
no_zero (b ∷ bytes) e = let h = or_parts (b == 0) (list_any (λ b. b == 0) bytes) e in ((λ (is : b ≡ 0). grind (arith, nat_tests)), no_zero bytes h.1)

pub name_in_is : (o : Option (List ℕ)) (n : List ℕ) → name_in o ≡ Ok n → (o ≡ Some n) × IsName n
unfolding name_in
name_in_is o n e =
    let is_a_name : (bytes : List ℕ) → (length bytes == 0) ≡ false → list_any (λ b. b == 0) bytes ≡ false → nat_lt 63 (length bytes) ≡ false → is_utf8 bytes ≡ true → IsName bytes =
    λ bytes some zeros short utf8. record { some = grind (arith, nat_tests); short = grind (arith, nat_tests); utf8 = IsUtf8-from_is_utf8 bytes utf8; no_zero = All-from_recursion (λ b. b ≢ 0) bytes (no_zero bytes zeros) } in
    grind (arith, or_parts, is_a_name)

-- whether a token that is one word is another
pub same_by : (k : TokenKind) (w a b : List ℕ) → is_keyword_of k w a ≡ true → is_keyword_of k w b ≡ str_eq_ignore_ascii_case a b
unfolding is_keyword_of
same_by Word w a b e = ap (λ (x : List ℕ). bytes_eq x (str_to_ascii_lowercase b)) ((bytes_eq-Decides (str_to_ascii_lowercase w) (str_to_ascii_lowercase a)).0 e)
same_by x w a b e = absurd cc

pub words_apart : (a b : List ℕ) → str_eq_ignore_ascii_case a b ≡ false → Apart (is_word a) (is_word b)
unfolding is_word
words_apart a b differ t e = same_by t.kind t.word a b e ∙ differ

pub run_none : (m : Machine) (ts : List Lexeme) → run m None ts ≡ None
run_none m [] = refl
run_none m (t ∷ ts) = run_none m ts

abbrev pub nest : List Bracket → Spot → Nest
nest brackets spot = record { brackets = brackets; spot = spot }

pub and_false : (x : Bool) → (x && false) ≡ false
and_false x = grind arith

pub some_left : (n : ℕ) → 0 < n → (m : ℕ) × (n ≡ suc m)
some_left zero some = absurd (omega arith)
some_left (suc n) some = (n, refl)
