-- Steps of a reading, and the first of some tokens.
use Rattle.ddl_part_laws.proofs.Common.{◌≡◌, Bool, true, false, ◌||◌, List, [], ◌∷◌, ◌++◌, refl, arith, Lexeme, starts, never, Part, IsTooLong, shortened, Like, Apart, Begins, Avoids}

-- ---- the first token

pub starts-append : (test : Lexeme → Bool) (a b : List Lexeme) → starts test a ≡ true → starts test (a ++ b) ≡ true
starts-append test a b e = grind arith

-- a token that is too long passes the test where a shorter one does
abbrev pub Agrees : (Lexeme → Bool) → Type 0
Agrees test = (t : Lexeme) → IsTooLong t → test (shortened t) ≡ test t

pub passes_like : (test : Lexeme → Bool) → Agrees test → (long : Bool) (t u : Lexeme) → Like long t u → test u ≡ test t
passes_like test agrees long t u h = grind arith

-- the first of some tokens and one more, whatever comes behind that one
pub starts_kept : (test : Lexeme → Bool) (front : List Lexeme) (t u : Lexeme) (behind other : List Lexeme) → test u ≡ test t → starts test (front ++ u ∷ other) ≡ starts test (front ++ t ∷ behind)
starts_kept test [] t u behind other e = e
starts_kept test (f ∷ front) t u behind other e = refl

-- the same, where the tokens are given as a whole
pub starts_again : (test : Lexeme → Bool) → Agrees test → (b : Bool) (ts front rest : List Lexeme) (t : Lexeme) (behind : List Lexeme) → starts test ts ≡ b → ts ≡ front ++ rest → rest ≡ t ∷ behind → (long : Bool) (u : Lexeme) → Like long t u → (other : List Lexeme) → starts test (front ++ u ∷ other) ≡ b
starts_again test agrees b ts front rest t behind e parts is long u like other = grind (arith, starts_kept, passes_like, starts)

pub starts_neither : (one other : Lexeme → Bool) (ts : List Lexeme) → starts (λ t. one t || other t) ts ≡ false → (starts one ts ≡ false) × (starts other ts ≡ false)
starts_neither one other ts e = grind arith

pub starts_apart : (one other : Lexeme → Bool) (ts : List Lexeme) → Apart one other → starts one ts ≡ true → starts other ts ≡ false
starts_apart one other ts apart e = grind arith

-- what begins with one of these begins with one of those, and where none of those stands none of these does
pub starts_more : (test other : Lexeme → Bool) → ((t : Lexeme) → test t ≡ true → other t ≡ true) → (ts : List Lexeme) → starts test ts ≡ true → starts other ts ≡ true
starts_more test other more ts e = grind arith

-- ---- parts side by side

-- what never goes on is followed by anything
pub avoids_never : {B : Type 0} (q : Part B) → Avoids never q
avoids_never q w b rest spells free = grind arith

-- a part that begins with other tokens
pub avoids_begun : {B : Type 0} (test other : Lexeme → Bool) (q : Part B) → Begins test q → Apart test other → Avoids other q
avoids_begun test other q begins apart w b rest spells free = starts_apart test other (b ++ rest) apart (starts-append test b rest (begins w b spells))
