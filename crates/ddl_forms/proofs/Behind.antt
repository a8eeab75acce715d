-- What may stand behind a text, and what a text begins with.
use Rattle.ddl_forms.proofs.Common.{◌≡◌, ℕ, ◌+◌, Bool, true, false, cond, ◌||◌, List, [], ◌∷◌, ◌++◌, append_assoc, arith, ◌==◌, nat_lt, lt-ltb, nat_tests, ltb-true}
use Rattle.ddl_forms.proofs.Standing.{is_safe, is_safe_byte}

-- anything; what parts words, names and literals; what goes on with no token; or nothing
pub data Behind : Type 0 where
  Anything : Behind
  Words : Behind
  Safe : Behind
  End : Behind

-- what may follow a word, a name or a literal: what may follow any token, an opening bracket or a dot
abbrev pub parts_words : ℕ → Bool
parts_words b = is_safe_byte b || (b == 40 || b == 46)

abbrev pub admits : Behind → List ℕ → Bool
admits Anything rest = true
admits Words [] = true
admits Words (b ∷ rest) = parts_words b
admits Safe rest = is_safe rest
admits End [] = true
admits End (b ∷ rest) = false

abbrev rank : Behind → ℕ
rank Anything = 0
rank Words = 1
rank Safe = 2
rank End = 3

-- the first admits all that the second does
abbrev pub covers : Behind → Behind → Bool
covers a b = nat_lt (rank a) (rank b + 1)

pub admitted : (a b : Behind) (rest : List ℕ) → covers a b ≡ true → admits b rest ≡ true → admits a rest ≡ true
admitted a b rest c e = grind arith

pub through : (a b c : Behind) → covers a b ≡ true → covers b c ≡ true → covers a c ≡ true
through a b c e f = lt-ltb (rank a) (rank c + 1) (omega (arith, ltb-true (rank a) (rank b + 1) e, ltb-true (rank b) (rank c + 1) f))

-- of two, the one that admits more, and the one that admits less
abbrev pub looser : Behind → Behind → Behind
looser a b = cond (covers a b) a b

abbrev pub tighter : Behind → Behind → Behind
tighter a b = cond (covers a b) b a

pub tight : (a b : Behind) (rest : List ℕ) → admits (tighter a b) rest ≡ true → (admits a rest ≡ true) × (admits b rest ≡ true)
tight a b rest e = grind (arith, nat_tests)

-- A text begins with what this admits, whatever follows it; or where it may be empty, whatever follows that is admitted.
abbrev pub Opens : Bool → Behind → List ℕ → Type 0
Opens lacks opens text = (m : Behind) → covers m opens ≡ true → (rest : List ℕ) → admits (cond lacks m Anything) rest ≡ true → admits m (text ++ rest) ≡ true

abbrev pub opens_of : List ℕ → Behind
opens_of [] = Anything
opens_of (b ∷ rest) = cond (is_safe_byte b) Safe (cond (parts_words b) Words Anything)

pub opened : (g text : List ℕ) → Opens false (opens_of g) (g ++ text)
opened g text = grind arith

pub then_opens : (la lb : Bool) (oa ob : Behind) (a b : List ℕ) → Opens la oa a → Opens lb ob b → Opens (cond la lb false) (cond la (looser oa ob) oa) (a ++ b)
then_opens la lb oa ob a b f g = grind (arith, append_assoc, nat_tests)

pub one_opens : (la lb : Bool) (oa ob : Behind) (a : List ℕ) → Opens la oa a → Opens (la || lb) (looser oa ob) a
one_opens la lb oa ob a f = grind (arith, nat_tests)

pub other_opens : (la lb : Bool) (oa ob : Behind) (b : List ℕ) → Opens lb ob b → Opens (la || lb) (looser oa ob) b
other_opens la lb oa ob b f = grind (arith, nat_tests)
