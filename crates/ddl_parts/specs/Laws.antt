-- What holds of a part of the grammar, so that its reader and its spelling say the same.
-- Each part that is built by the combinators has these laws, where its own parts have them and can be told apart.
use Rattle.std.specs.Prelude.{◌≡◌, ◌⊎◌, Bool, true, false, List, ◌∷◌, ◌++◌, Ok, Err}
use Rattle.ddl_parts.specs.{Lexemes.Lexeme, Lexemes.starts, Parts.Stop, Parts.Part, Shortened.IsTooLong, Shortened.shortened}

-- a token itself, or where nothing hangs on its length, a shorter one in its place
abbrev pub Like : Bool → Lexeme → Lexeme → Type 0
Like long t u = (t ≡ u) ⊎ ((long ≡ false) × IsTooLong t × (shortened t ≡ u))

-- The first of these tokens is too long, and with a shorter one in its place something is spelled.
pub record Named {A : Type 0} (Spells : A → List Lexeme → Type 0) (front rest : List Lexeme) : Type 0 where
  pub token : Lexeme
  pub behind : List Lexeme
  pub is : rest ≡ token ∷ behind
  pub long : IsTooLong token
  pub value : A
  pub more : List Lexeme
  pub spells : Spells value (front ++ shortened token ∷ more)

-- What is read is spelled so, and what comes behind the next token doesn't matter, nor how long that is.
pub record Found {A : Type 0} (p : Part A) (ts : List Lexeme) (v : A) (rest : List Lexeme) : Type 0 where
  pub front : List Lexeme
  pub parts : ts ≡ front ++ rest
  pub spells : p.Spells v front
  pub local : (t : Lexeme) (behind : List Lexeme) → rest ≡ t ∷ behind → (u : Lexeme) → Like false t u → (other : List Lexeme) → p.read (front ++ u ∷ other) ≡ Ok (v, u ∷ other)

-- Where reading stops, what was read before can be finished, and with the next token it stops whatever comes behind it.
-- `long` is true where a shorter token in the place of this one would go on.
pub record Stopped {A : Type 0} (p : Part A) (ts : List Lexeme) (s : Stop) : Type 0 where
  pub front : List Lexeme
  pub parts : ts ≡ front ++ s.rest
  pub value : A
  pub more : List Lexeme
  pub finished : p.Spells value (front ++ more)
  pub local : (t : Lexeme) (behind : List Lexeme) → s.rest ≡ t ∷ behind → (u : Lexeme) → Like s.long t u → (other : List Lexeme) → p.read (front ++ u ∷ other) ≡ Err (record { long = s.long; rest = u ∷ other })
  pub named : s.long ≡ true → Named p.Spells front s.rest

-- some tokens spell something
pub record Example {A : Type 0} (p : Part A) : Type 0 where
  pub value : A
  pub tokens : List Lexeme
  pub spells : p.Spells value tokens

pub record Lawful {A : Type 0} (p : Part A) : Type 0 where
  pub found : (ts : List Lexeme) (v : A) (rest : List Lexeme) → p.read ts ≡ Ok (v, rest) → Found p ts v rest
  pub only : (v : A) (front rest : List Lexeme) → p.Spells v front → starts p.goes_on rest ≡ false → p.read (front ++ rest) ≡ Ok (v, rest)
  pub stopped : (ts : List Lexeme) (s : Stop) → p.read ts ≡ Err s → Stopped p ts s
  pub example : Example p

-- what spells a value begins with one of these tokens
abbrev pub Begins : {A : Type 0} → (Lexeme → Bool) → Part A → Type 0
Begins {A} test p = (v : A) (ts : List Lexeme) → p.Spells v ts → starts test ts ≡ true

-- what spells a value, and what may follow it, doesn't begin with one of these tokens
abbrev pub Avoids : {A : Type 0} → (Lexeme → Bool) → Part A → Type 0
Avoids {A} test p = (v : A) (ts rest : List Lexeme) → p.Spells v ts → starts p.goes_on rest ≡ false → starts test (ts ++ rest) ≡ false

-- no token passes both tests
abbrev pub Apart : (Lexeme → Bool) → (Lexeme → Bool) → Type 0
Apart one other = (t : Lexeme) → one t ≡ true → other t ≡ false
