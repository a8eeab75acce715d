-- A part of the grammar of statements: which tokens spell which value, and how it is read.
-- Parts are put together by a few combinators, so that a statement's grammar reads like its row of a table of texts.
use Rattle.std.specs.Prelude.{◌≡◌, ℕ, zero, suc, Bool, true, false, ◌||◌, ◌⊎◌, List, [], ◌∷◌, ◌++◌, length, Option, Some, None, Result, Ok, Err, option_and_then, if◌then◌else◌}
use Rattle.ddl_parts.specs.Lexemes.{Lexeme, starts, never, is_word}

-- Why reading stops: the tokens from the first one on with which nothing goes on. `long` says that the token is a name
-- but for its length.
pub record Stop : Type 0 where
  pub long : Bool
  pub rest : List Lexeme

-- a value and the tokens behind it, or the place where reading stops
abbrev pub Reading : Type 0 → Type 0
Reading A = Result (A × List Lexeme) Stop

abbrev pub stop : {A : Type 0} → List Lexeme → Reading A
stop rest = Err (record { long = false; rest = rest })

-- A part of the grammar. `goes_on` has each token that, right behind a value, could still belong to the part.
pub record Part (A : Type 0) : Type 1 where
  pub Spells : A → List Lexeme → Type 0
  pub read : List Lexeme → Reading A
  pub goes_on : Lexeme → Bool

infixl 10 ◌>>=◌
abbrev pub ◌>>=◌ : {A B : Type 0} → Result A Stop → (A → Result B Stop) → Result B Stop
(Ok x) >>= f = f x
(Err s) >>= f = Err s

-- ---- one token

-- one token with its value; the error says whether it is a name but for its length
abbrev pub first_by : {A : Type 0} → Lexeme → List Lexeme → Result A Bool → Reading A
first_by t ts (Ok v) = Ok (v, ts)
first_by t ts (Err long) = Err (record { long = long; rest = t ∷ ts })

abbrev pub one_at : {A : Type 0} → (Lexeme → Result A Bool) → List Lexeme → Reading A
one_at value [] = stop []
one_at value (t ∷ ts) = first_by t ts (value t)

abbrev pub one : {A : Type 0} → (Lexeme → Result A Bool) → Part A
one {A} value = record {
  Spells = λ v ts. (t : Lexeme) × (ts ≡ t ∷ []) × (value t ≡ Ok v);
  read = one_at value;
  goes_on = never;
}

-- a token that passes a test says no more
abbrev pub passes : (Lexeme → Bool) → Lexeme → Result (Unit {0}) Bool
passes test t = if test t then Ok tt else Err false

abbrev pub mark : (Lexeme → Bool) → Part (Unit {0})
mark test = one (passes test)

-- ---- one after another

abbrev pub then_at : {A B : Type 0} → (List Lexeme → Reading A) → (List Lexeme → Reading B) → List Lexeme → Reading (A × B)
then_at p q ts = p ts >>= λ a. q a.1 >>= λ b. Ok ((a.0, b.0), b.1)

infixr 20 ◌then◌
abbrev pub ◌then◌ : {A B : Type 0} → Part A → Part B → Part (A × B)
p then q = record {
  Spells = λ v ts. (a : List Lexeme) × (b : List Lexeme) × (ts ≡ a ++ b) × p.Spells v.0 a × q.Spells v.1 b;
  read = then_at p.read q.read;
  goes_on = q.goes_on;
}

-- ---- a value seen through another

abbrev pub seen_at : {A B : Type 0} → (A → B) → Reading A → Reading B
seen_at f (Ok x) = Ok (f x.0, x.1)
seen_at f (Err s) = Err s

abbrev pub seen : {A B : Type 0} → (A → B) → Part A → Part B
seen {A} f p = record {
  Spells = λ w ts. (v : A) × (w ≡ f v) × p.Spells v ts;
  read = λ ts. seen_at f (p.read ts);
  goes_on = p.goes_on;
}

-- a token that says no more, before a part or behind it
infixr 20 ◌▸◌
abbrev pub ◌▸◌ : {A : Type 0} → (Lexeme → Bool) → Part A → Part A
test ▸ p = seen (λ x. x.1) (mark test then p)

infixl 21 ◌◂◌
abbrev pub ◌◂◌ : {A : Type 0} → Part A → (Lexeme → Bool) → Part A
p ◂ test = seen (λ x. x.0) (p then mark test)

-- ---- one of two

-- the first where the next token passes the test, else the second
abbrev pub choose_at : {A : Type 0} → Bool → Reading A → Reading A → Reading A
choose_at first p q = if first then p else q

abbrev pub choose : {A : Type 0} → (Lexeme → Bool) → Part A → Part A → Part A
choose test p q = record {
  Spells = λ v ts. p.Spells v ts ⊎ q.Spells v ts;
  read = λ ts. choose_at (starts test ts) (p.read ts) (q.read ts);
  goes_on = λ t. p.goes_on t || q.goes_on t;
}

-- a part behind a key word
pub record Branch (A : Type 0) : Type 1 where
  pub key : List ℕ
  pub part : Part A

abbrev pub branch : {A : Type 0} → Branch A → Part A
branch b = is_word b.key ▸ b.part

-- one of several by their key words
abbrev pub one_of : {A : Type 0} → Branch A → List (Branch A) → Part A
one_of b [] = branch b
one_of b (c ∷ rest) = choose (is_word b.key) (branch b) (one_of c rest)

-- no token, where none of these follows
abbrev pub nothing : {A : Type 0} → (Lexeme → Bool) → A → Part A
nothing test v = record {
  Spells = λ w ts. (w ≡ v) × (ts ≡ []);
  read = λ ts. Ok (v, ts);
  goes_on = test;
}

-- a part that may be left out; the test says with which token it begins
abbrev pub optional : {A : Type 0} → (Lexeme → Bool) → Part A → Part (Option A)
optional test p = choose test (seen Some p) (nothing test None)

-- the same part, where further tokens could belong to it
abbrev pub wider : {A : Type 0} → (Lexeme → Bool) → Part A → Part A
wider more p = record { Spells = p.Spells; read = p.read; goes_on = λ t. p.goes_on t || more t }

-- ---- any number of them

-- How items follow one another: by a state. `more` tells of the next token whether an item begins with it, and an item
-- leads to another state.
pub record Items (A : Type 0) : Type 1 where
  pub State : Type 0
  pub start : State
  pub more : State → Lexeme → Bool
  pub item : State → Part A
  pub next : State → A → State

pub data Many {A : Type 0} (items : Items A) : items.State → List A → List Lexeme → Type 0 where
  no_more : (s : items.State) → Many items s [] []
  one_more : (s : items.State) (v : A) (vs : List A) (a b : List Lexeme) → (items.item s).Spells v a → Many items (items.next s v) vs b → Many items s (v ∷ vs) (a ++ b)

-- at most n items, each of a token at least
unfoldable pub many_at : {A : Type 0} → (items : Items A) → ℕ → items.State → List Lexeme → Reading (List A)
many_at items zero s ts = Ok ([], ts)
many_at items (suc n) s ts =
    if starts (items.more s) ts
    then ((items.item s).read ts >>= λ first. many_at items n (items.next s first.0) first.1 >>= λ others. Ok (first.0 ∷ others.0, others.1))
    else Ok ([], ts)

abbrev pub many : {A : Type 0} → (Lexeme → Bool) → Items A → Part (List A)
many goes_on items = record {
  Spells = Many items items.start;
  read = λ ts. many_at items (length ts) items.start ts;
  goes_on = goes_on;
}

-- ---- a run of tokens, by a machine

-- A machine goes from state to state, token by token, and may end where it is done.
pub record Machine : Type 1 where
  pub State : Type 0
  pub start : State
  pub step : State → Lexeme → Option State
  pub done : State → Bool
  pub long : State → Lexeme → Bool
  pub goes_on : Lexeme → Bool

abbrev pub run : (m : Machine) → Option m.State → List Lexeme → Option m.State
run m s [] = s
run m s (t ∷ ts) = run m (option_and_then (λ x. m.step x t) s) ts

pub record Runs (m : Machine) (ts : List Lexeme) : Type 0 where
  pub last : m.State
  pub runs : run m (Some m.start) ts ≡ Some last
  pub done : m.done last ≡ true

abbrev pub ends : (m : Machine) → m.State → Bool → List Lexeme → Reading (List Lexeme)
ends m s long rest = if m.done s then Ok ([], rest) else Err (record { long = long; rest = rest })

abbrev pub scan_step : {S : Type 0} → Reading (List Lexeme) → (S → Reading (List Lexeme)) → Option S → Reading (List Lexeme)
scan_step stopped later None = stopped
scan_step stopped later (Some s) = later s

-- the tokens up to the first with which the machine doesn't go on
unfoldable pub scan : (m : Machine) → m.State → List Lexeme → Reading (List Lexeme)
scan m s [] = ends m s false []
scan m s (t ∷ ts) = scan_step (ends m s (m.long s t) (t ∷ ts)) (λ x. scan m x ts >>= λ r. Ok (t ∷ r.0, r.1)) (m.step s t)

abbrev pub runs_of : Machine → Part (List Lexeme)
runs_of m = record {
  Spells = λ v ts. (v ≡ ts) × Runs m ts;
  read = scan m m.start;
  goes_on = m.goes_on;
}
