-- Expressions: runs of tokens with balanced brackets, without semicolons and lines that begin with a backslash.
-- The default of a column or a domain also ends, outside brackets, before a comma and the words DEFAULT, CONSTRAINT
-- and NOT NULL.
use Rattle.std.specs.{Prelude.ℕ, Prelude.Bool, Prelude.true, Prelude.false, Prelude.◌||◌, Prelude.◌&&◌, Prelude.not, Prelude.◌==◌, Prelude.◌-◌, Prelude.List, Prelude.[], Prelude.◌∷◌, Prelude.length, Prelude.take, Prelude.drop, Prelude.Option, Prelude.Some, Prelude.None, Prelude.if◌then◌else◌, Prelude.codes, Option.option_map}
use Rattle.sql_lex.specs.{declared.token.TokenKind.TokenKind, declared.token.TokenKind.TheVariants.Sign, declared.token.TokenKind.TheVariants.MetaLine}
use Rattle.ddl_parts.specs.{declared.runs.Bracket.Bracket, declared.runs.Bracket.TheVariants.Round, declared.runs.Bracket.TheVariants.Square, declared.runs.Spot.Spot, declared.runs.Spot.TheVariants.First, declared.runs.Spot.TheVariants.FirstNot, declared.runs.Spot.TheVariants.LaterNot, declared.runs.Spot.TheVariants.Inside, declared.runs.Spot.TheVariants.Closed, Lexemes.Lexeme, Lexemes.is_word, Lexemes.is_sign, Lexemes.source, Parts.Part, Parts.Machine, Parts.runs_of, Parts.seen}

-- the open brackets, the innermost first, and the spot
pub record Nest : Type 0 where
  pub brackets : List Bracket
  pub spot : Spot

abbrev pub without_round : List Bracket → Option (List Bracket)
without_round (Round ∷ rest) = Some rest
without_round _ = None

abbrev pub without_square : List Bracket → Option (List Bracket)
without_square (Square ∷ rest) = Some rest
without_square _ = None

-- the open brackets behind a sign
abbrev pub behind_sign : ℕ → List Bracket → Option (List Bracket)
behind_sign b brackets =
    if b == 40 then Some (Round ∷ brackets)
    else (if b == 91 then Some (Square ∷ brackets)
    else (if b == 41 then without_round brackets
    else (if b == 93 then without_square brackets
    else (if b == 59 then None else Some brackets))))

abbrev pub behind_kind : TokenKind → List Bracket → Option (List Bracket)
behind_kind (Sign b) brackets = behind_sign b brackets
behind_kind MetaLine brackets = None
behind_kind _ brackets = Some brackets

abbrev pub moved : Option (List Bracket) → Option Nest
moved brackets = option_map (λ b. record { brackets = b; spot = Inside }) brackets

-- tokens that no run takes outside brackets
abbrev pub is_end_kind : TokenKind → Bool
is_end_kind (Sign b) = b == 41 || b == 93 || b == 59
is_end_kind MetaLine = true
is_end_kind _ = false

-- those before which a run ends, outside brackets; `bounded` says that it is a default
unfoldable pub ends_run : Bool → Lexeme → Bool
ends_run bounded t =
    is_end_kind t.kind || (bounded && (is_sign 44 t || is_word (codes "default") t || is_word (codes "constraint") t))

-- NOT NULL is taken where it may be and something stands before it
abbrev pub behind_null : Bool → Spot → Option Nest
behind_null takes FirstNot = None
behind_null takes LaterNot = if takes then Some (record { brackets = []; spot = Closed }) else None
behind_null takes Closed = None
behind_null takes _ = Some (record { brackets = []; spot = Inside })

abbrev pub behind_not : Spot → Option Nest
behind_not First = Some (record { brackets = []; spot = FirstNot })
behind_not Closed = None
behind_not _ = Some (record { brackets = []; spot = LaterNot })

abbrev pub behind_other : TokenKind → Spot → Option Nest
behind_other kind Closed = None
behind_other kind _ = moved (behind_kind kind [])

abbrev pub behind_bounded : Bool → Spot → Lexeme → Option Nest
behind_bounded takes spot t =
    if is_word (codes "not") t then behind_not spot
    else (if is_word (codes "null") t then behind_null takes spot else behind_other t.kind spot)

-- outside brackets
abbrev pub step_outside : Bool → Bool → Spot → Lexeme → Option Nest
step_outside bounded takes spot t =
    if ends_run bounded t then None else (if bounded then behind_bounded takes spot t else moved (behind_kind t.kind []))

abbrev pub step_by : Bool → Bool → Spot → Lexeme → List Bracket → Option Nest
step_by bounded takes spot t [] = step_outside bounded takes spot t
step_by bounded takes spot t (b ∷ rest) = moved (behind_kind t.kind (b ∷ rest))

unfoldable pub nest_step : Bool → Bool → Nest → Lexeme → Option Nest
nest_step bounded takes s t = step_by bounded takes s.spot t s.brackets

abbrev pub is_inside : Spot → List Bracket → Bool
is_inside First _ = false
is_inside _ [] = true
is_inside _ (b ∷ rest) = false

-- a token at least, and no bracket is open
unfoldable pub nest_done : Nest → Bool
nest_done s = is_inside s.spot s.brackets

-- a run of tokens; `bounded` says that it is a default, `takes` that it may end with NOT NULL
abbrev pub nested : Bool → Bool → Machine
nested bounded takes = record {
  State = Nest;
  start = record { brackets = []; spot = First };
  step = nest_step bounded takes;
  done = nest_done;
  long = λ s t. false;
  goes_on = λ t. not (ends_run bounded t);
}

-- the text of a run with balanced brackets, up to a semicolon or the closing bracket around it
unfoldable pub expression : Part (List ℕ)
expression = seen source (runs_of (nested false false))

-- the text of a default that NOT NULL may not follow
unfoldable pub default_text : Part (List ℕ)
default_text = seen source (runs_of (nested true false))

abbrev pub are_not_null : List Lexeme → Bool
are_not_null (a ∷ b ∷ []) = is_word (codes "not") a && is_word (codes "null") b
are_not_null _ = false

-- the text before NOT NULL, where a run ends with it, and whether it does
unfoldable pub without_not_null : List Lexeme → List ℕ × Bool
without_not_null ts =
    if are_not_null (drop (length ts - 2) ts) then (source (take (length ts - 2) ts), true) else (source ts, false)

-- a default, and whether NOT NULL follows it
unfoldable pub default_and_null : Part (List ℕ × Bool)
default_and_null = seen without_not_null (runs_of (nested true true))
