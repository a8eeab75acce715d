-- Each letter of the tables is of ASCII.
use Rattle.std.proofs.Common.{◌≡◌, ℕ, ◌<◌, Bool, true, false, cond, eqb, ltb, ◌&&◌, List, [], ◌∷◌, Some, refl, arith, OnSome}
use Rattle.std.proofs.lemmas.Bool.{eqb-true}
use Rattle.std.proofs.lemmas.Bool.Decides.{nat_tests}
use Rattle.std.specs.Prelude.{find, option_map}
use Rattle.command_line.specs.declared.options.Opt.{Opt}
use Rattle.command_line.specs.declared.options.TheConstants.{LETTERS, GEN_LETTERS}
use Rattle.command_line.specs.Spellings.{found_letter}

and_right : (a b : Bool) → (a && b) ≡ true → b ≡ true
and_right true b e = e
and_right false b e = cc

abbrev all_ascii : List (ℕ × Opt) → Bool
all_ascii [] = true
all_ascii (l ∷ letters) = ltb l.0 128 && all_ascii letters

at_letter : (l : ℕ × Opt) (letters : List (ℕ × Opt)) (letter : ℕ) (same : Bool) → eqb l.0 letter ≡ same → (ltb l.0 128 && all_ascii letters) ≡ true
    → (all_ascii letters ≡ true → OnSome (found_letter letters letter) (letter < 128)) → OnSome (option_map (λ l. l.1) (cond same (Some l) (find (λ l. eqb l.0 letter) letters))) (letter < 128)
at_letter l letters letter true e h later = let same = eqb-true l.0 letter e in grind (arith, nat_tests)
at_letter l letters letter false e h later = later (and_right (ltb l.0 128) (all_ascii letters) h)

found_ascii : (letters : List (ℕ × Opt)) (letter : ℕ) → all_ascii letters ≡ true → OnSome (found_letter letters letter) (letter < 128)
found_ascii [] letter h = tt
found_ascii (l ∷ letters) letter h = at_letter l letters letter (eqb l.0 letter) refl h (found_ascii letters letter)

pub letters_ascii : (letter : ℕ) → OnSome (found_letter LETTERS letter) (letter < 128)
letters_ascii letter = found_ascii LETTERS letter refl

pub gen_letters_ascii : (letter : ℕ) → OnSome (found_letter GEN_LETTERS letter) (letter < 128)
gen_letters_ascii letter = found_ascii GEN_LETTERS letter refl
