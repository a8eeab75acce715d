-- The types of columns and domains: words, one of which numbers in brackets may follow, and brackets without anything
-- for arrays; or a qualified name.
use Rattle.std.specs.{Prelude.ℕ, Prelude.Bool, Prelude.true, Prelude.false, Prelude.◌||◌, Prelude.◌&&◌, Prelude.not, Prelude.List, Prelude.[], Prelude.◌∷◌, Prelude.Option, Prelude.Some, Prelude.None, Prelude.Result, Prelude.Ok, Prelude.Err, Prelude.is_ok, Prelude.if◌then◌else◌, Prelude.codes, List.list_any}
use Rattle.sql_lex.specs.{declared.token.TokenKind.TokenKind, declared.token.TokenKind.TheVariants.Word, declared.token.TokenKind.TheVariants.Number}
use Rattle.cat_model.specs.declared.type_name.TypeName.{TypeName}
use Rattle.cat_model.specs.declared.type_name.TypeName.TheVariants as type_name
use Rattle.ddl_parts.specs.{declared.types.TypeSpot.TypeSpot, declared.types.TypeSpot.TheVariants.Begin, declared.types.TypeSpot.TheVariants.FirstWord, declared.types.TypeSpot.TheVariants.Schema, declared.types.TypeSpot.TheVariants.Dotted, declared.types.TypeSpot.TheVariants.Path, declared.types.TypeSpot.TheVariants.Words, declared.types.TypeSpot.TheVariants.Opened, declared.types.TypeSpot.TheVariants.Counted, declared.types.TypeSpot.TheVariants.Further, declared.types.TypeSpot.TheVariants.Behind, declared.types.TypeSpot.TheVariants.Array, declared.types.TypeSpot.TheVariants.Ended, Lexemes.Lexeme, Lexemes.is_word, Lexemes.is_sign, Lexemes.source, Parts.Part, Parts.Machine, Parts.runs_of, Parts.seen, Leaves.name_value}

-- words that follow a type and are none of its words
abbrev pub stop_words : List (List ℕ)
stop_words =
    codes "check" ∷ codes "collate" ∷ codes "constraint" ∷ codes "default" ∷ codes "generated" ∷ codes "not" ∷
    codes "null" ∷ codes "primary" ∷ codes "references" ∷ codes "unique" ∷ []

abbrev pub is_word_kind : TokenKind → Bool
is_word_kind Word = true
is_word_kind _ = false

unfoldable pub is_type_word : Lexeme → Bool
is_type_word t = is_word_kind t.kind && not (list_any (λ w. is_word w t) stop_words)

abbrev pub is_number_kind : TokenKind → Bool
is_number_kind Number = true
is_number_kind _ = false

unfoldable pub is_number : Lexeme → Bool
is_number t = is_number_kind t.kind

abbrev pub if_name : Result (List ℕ) Bool → TypeSpot → Option TypeSpot
if_name (Ok n) s = Some s
if_name (Err long) s = None

abbrev pub only_if : Bool → TypeSpot → Option TypeSpot
only_if b s = if b then Some s else None

abbrev pub more_words : Lexeme → Option TypeSpot
more_words t =
    if is_type_word t then Some Words
    else (if is_sign 40 t then Some Opened else only_if (is_sign 91 t) Array)

unfoldable pub type_step : TypeSpot → Lexeme → Option TypeSpot
type_step Begin t = if is_type_word t then Some (FirstWord (is_ok (name_value t))) else if_name (name_value t) Schema
type_step (FirstWord short) t = if is_sign 46 t then only_if short Dotted else more_words t
type_step Schema t = only_if (is_sign 46 t) Dotted
type_step Dotted t = if_name (name_value t) Path
type_step Path t = None
type_step Words t = more_words t
type_step Opened t = only_if (is_number t) Counted
type_step Counted t = if is_sign 44 t then Some Further else only_if (is_sign 41 t) Behind
type_step Further t = only_if (is_number t) Counted
type_step Behind t = if is_type_word t then Some Behind else only_if (is_sign 91 t) Array
type_step Array t = only_if (is_sign 93 t) Ended
type_step Ended t = None

unfoldable pub type_done : TypeSpot → Bool
type_done Begin = false
type_done (FirstWord short) = true
type_done Schema = false
type_done Dotted = false
type_done Path = true
type_done Words = true
type_done Opened = false
type_done Counted = false
type_done Further = false
type_done Behind = true
type_done Array = false
type_done Ended = true

abbrev pub is_long_by : Result (List ℕ) Bool → Bool
is_long_by (Ok n) = false
is_long_by (Err long) = long

-- where a name would be read but for its length
unfoldable pub type_long : TypeSpot → Lexeme → Bool
type_long Begin t = is_long_by (name_value t)
type_long Dotted t = is_long_by (name_value t)
type_long _ t = false

unfoldable pub type_goes_on : Lexeme → Bool
type_goes_on t = is_type_word t || (is_sign 46 t || (is_sign 40 t || is_sign 91 t))

abbrev pub typing : Machine
typing = record {
  State = TypeSpot;
  start = Begin;
  step = type_step;
  done = type_done;
  long = type_long;
  goes_on = type_goes_on;
}

abbrev pub named : Result (List ℕ) Bool → List ℕ
named (Ok n) = n
named (Err long) = []

-- the type that tokens spell
unfoldable pub type_of : List Lexeme → TypeName
type_of (a ∷ dot ∷ b ∷ rest) =
    if is_sign 46 dot
    then type_name.Path (record { schema = named (name_value a); name = named (name_value b) })
    else type_name.Words (source (a ∷ dot ∷ b ∷ rest))
type_of ts = type_name.Words (source ts)

unfoldable pub type_part : Part TypeName
type_part = seen type_of (runs_of typing)
