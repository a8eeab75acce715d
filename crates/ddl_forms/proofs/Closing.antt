-- A part ends with a token, and no such token stands before the last.
use Rattle.ddl_forms.proofs.Common.{◌≡◌, Bool, true, false, not, ◌&&◌, List, [], ◌∷◌, ◌++◌, refl, arith, and_parts, Lexeme, Part}

-- ---- the last token

abbrev pub ends_with : (Lexeme → Bool) → List Lexeme → Bool
ends_with test [] = false
ends_with test (t ∷ []) = test t
ends_with test (t ∷ u ∷ ts) = ends_with test (u ∷ ts)

pub ends_append : (test : Lexeme → Bool) (a b : List Lexeme) → ends_with test b ≡ true → ends_with test (a ++ b) ≡ true
ends_append test [] b e = e
ends_append test (t ∷ a) b e = grind (arith, (ends_append test a b e))

abbrev pub Closes : {A : Type 0} → (Lexeme → Bool) → Part A → Type 0
Closes {A} test p = (v : A) (ts : List Lexeme) → p.Spells v ts → ends_with test ts ≡ true

-- ---- no semicolon before the last token

abbrev pub only_last : (Lexeme → Bool) → List Lexeme → Bool
only_last test [] = true
only_last test (t ∷ []) = true
only_last test (t ∷ u ∷ ts) = not (test t) && only_last test (u ∷ ts)

pub nothing_left : (test : Lexeme → Bool) (front rest : List Lexeme) → only_last test (front ++ rest) ≡ true → ends_with test front ≡ true → rest ≡ []
nothing_left test [] rest last ends = absurd cc
nothing_left test (t ∷ []) [] last ends = refl
nothing_left test (t ∷ []) (r ∷ rest) last ends = absurd (grind arith)
nothing_left test (t ∷ u ∷ front) rest last ends = nothing_left test (u ∷ front) rest (and_parts (not (test t)) (only_last test (u ∷ (front ++ rest))) last).1 ends
