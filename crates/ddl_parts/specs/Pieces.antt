-- Tokens of a text, one after another, and what the code's readers answer.
use Rattle.std.specs.{Prelude.◌≡◌, Prelude.ℕ, Prelude.◌-◌, Prelude.◌≤◌, Prelude.Bool, Prelude.true, Prelude.false, Prelude.◌&&◌, Prelude.◌==◌, Prelude.nat_le, Prelude.nat_lt, Prelude.List, Prelude.[], Prelude.◌∷◌, Prelude.length, Prelude.map, Prelude.take, Prelude.drop, Prelude.slice_range, Prelude.Option, Prelude.Some, Prelude.None, Prelude.Result, Prelude.Ok, Prelude.Err, Prelude.⊤, Prelude.if◌then◌else◌, List.list_all, Str.is_utf8}
use Rattle.sql_lex.specs.Meaning.{spelling}
use Rattle.ddl_parts.specs.{declared.pieces.Piece.Piece, declared.fault.Halt.Halt, declared.fault.ReadError.ReadError, Lexemes.Lexeme, Lexemes.starts, Parts.Stop, Parts.Reading, Parts.mark}
use Rattle.ddl_parts.specs.declared.fault.ReadError.TheVariants as errors

abbrev pub lexeme_of : List ℕ → Piece → Lexeme
lexeme_of text p = record { gap = slice_range text p.from p.token.start; kind = p.token.kind; word = spelling text p.token; start = p.token.start }

abbrev pub lexemes : List ℕ → List Piece → List Lexeme
lexemes text ps = map (lexeme_of text) ps

-- each begins where the one before ends, has a token of a byte at least, and ends in the text
unfoldable pub are_joined_from : ℕ → ℕ → List Piece → Bool
are_joined_from limit at [] = true
are_joined_from limit at (p ∷ ps) =
    p.from == at && nat_le at p.token.start && nat_lt p.token.start p.token.end && nat_le p.token.end limit && are_joined_from limit p.token.end ps

unfoldable pub are_joined : ℕ → List Piece → Bool
are_joined limit [] = true
are_joined limit (p ∷ ps) = are_joined_from limit p.from (p ∷ ps)

-- a token, and what stands before it, is UTF-8
unfoldable pub is_sound : Lexeme → Bool
is_sound t = is_utf8 t.gap && is_utf8 t.word

unfoldable pub are_sound : List ℕ → List Piece → Bool
are_sound text ps = list_all is_sound (lexemes text ps)

-- tokens of a text, one after another
pub record AreTokens (text : List ℕ) (ps : List Piece) : Type 0 where
  pub joined : are_joined (length text) ps ≡ true
  pub sound : are_sound text ps ≡ true

-- a place among tokens stands for those from it on
abbrev pub halted : List Lexeme → Halt → Stop
halted ts h = record { long = h.long; rest = drop h.at ts }

abbrev pub Fails : {B : Type 0} → List Lexeme → ReadError → Reading B → Type 0
Fails ts errors.Memory reading = ⊤
Fails ts (errors.Halted h) reading = reading ≡ Err (halted ts h)

-- What a reader of the code answered, a value seen by view and the place behind it, is what the part reads, unless
-- memory ran out.
abbrev pub GivesPart : {A B : Type 0} → List Lexeme → (A → B) → Result (A × ℕ) ReadError → Reading B → Type 0
GivesPart ts view (Ok x) reading = reading ≡ Ok (view x.0, drop x.1 ts)
GivesPart ts view (Err error) reading = Fails ts error reading

-- the same of a part that says no more
abbrev pub GivesPlace : List Lexeme → Result ℕ ReadError → Reading (Unit {0}) → Type 0
GivesPlace ts (Ok at) reading = reading ≡ Ok (tt, drop at ts)
GivesPlace ts (Err error) reading = Fails ts error reading

-- The place behind the token at a place, where it passes a test.
abbrev pub IsBehind : List Lexeme → (Lexeme → Bool) → ℕ → Option ℕ → Type 0
IsBehind ts test at None = starts test (drop at ts) ≡ false
IsBehind ts test at (Some next) = (starts test (drop at ts) ≡ true) × ((mark test).read (drop at ts) ≡ Ok (tt, drop next ts))

-- A run of tokens from a place on: it goes up to the place that was answered.
abbrev pub GivesRun : List Lexeme → ℕ → Result ℕ ReadError → Reading (List Lexeme) → Type 0
GivesRun ts from (Ok end) reading = (from ≤ end) × (end ≤ length ts) × (reading ≡ Ok (take (end - from) (drop from ts), drop end ts))
GivesRun ts from (Err error) reading = Fails ts error reading

-- the answer at the end of a run, where it may end
abbrev pub ended : Bool → Bool → ℕ → Result ℕ ReadError
ended done long at = if done then Ok at else Err (errors.Halted (record { long = long; at = at }))

-- a value, whatever stands behind it
abbrev pub value_of : {B : Type 0} → Reading B → Result B Stop
value_of (Ok x) = Ok x.0
value_of (Err s) = Err s

abbrev pub FailsValue : {B : Type 0} → List Lexeme → ReadError → Result B Stop → Type 0
FailsValue ts errors.Memory given = ⊤
FailsValue ts (errors.Halted h) given = given ≡ Err (halted ts h)

-- the value that was read, seen by view
abbrev pub GivesValue : {A B : Type 0} → List Lexeme → (A → B) → Result A ReadError → Result B Stop → Type 0
GivesValue ts view (Ok x) given = given ≡ Ok (view x)
GivesValue ts view (Err error) given = FailsValue ts error given
