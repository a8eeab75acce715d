-- Which texts of types, expressions, constraints and indexes can be written and are read back, as tests.
use Rattle.std.specs.Prelude.{ℕ, Bool, true, false, ◌&&◌, ◌==◌, List, [], ◌∷◌, length, Option, Some, None, Ok}
use Rattle.std.specs.List.{list_all}
use Rattle.copy_text.specs.Texts.{is_name}
use Rattle.cat_model.specs.declared.object.QName.{QName}
use Rattle.cat_model.specs.declared.type_name.TypeName.{TypeName}
use Rattle.cat_model.specs.declared.type_name.TypeName.TheVariants.{Words, Path}
use Rattle.cat_model.specs.Lexemes.{same_text}
use Rattle.cat_model.specs.Values.{Bytes}
use Rattle.ddl_laws.specs.Lexemes.{Lexeme, starts, start_of, is_sign}
use Rattle.ddl_laws.specs.Parts.{Part, Reading, Machine, run}
use Rattle.ddl_laws.specs.Pieces.{lexemes}
use Rattle.ddl_laws.specs.Collecting.{collected}
use Rattle.ddl_laws.specs.Expressions.{nested}
use Rattle.ddl_laws.specs.Types.{typing, type_of}

-- the tokens of a text
abbrev pub tokens : Bytes → List Lexeme
tokens v = lexemes v (collected v 0).pieces

abbrev pub is_at_start : Option ℕ → Bool
is_at_start None = false
is_at_start (Some place) = place == 0

abbrev pub is_done : (m : Machine) → Option m.State → Bool
is_done m None = false
is_done m (Some s) = m.done s

-- the text begins with its first token and ends with its last
abbrev pub is_of_tokens : Bytes → Bool → Bool
is_of_tokens v are = is_at_start (start_of (tokens v)) && ((collected v 0).end == length v && are)

-- a run of tokens and nothing else
unfoldable pub is_run : Machine → Bytes → Bool
is_run m v = is_of_tokens v (is_done m (run m (Some m.start) (tokens v)))

-- what is read has no token behind it
abbrev pub is_all : {A : Type 0} → Reading A → Bool
is_all (Ok (v, [])) = true
is_all _ = false

-- an expression, and one that begins with an opening bracket
abbrev pub is_expression : Bytes → Bool
is_expression v = is_run (nested false false) v

unfoldable pub is_bracketed : Bytes → Bool
is_bracketed v = is_expression v && starts (is_sign 40) (tokens v)

-- the expression of a default
abbrev pub is_default : Bytes → Bool
is_default v = is_run (nested true false) v

-- both parts of a path are names
abbrev pub is_path : QName → Bool
is_path q = is_name q.schema && is_name q.name

abbrev pub are_words : Bytes → TypeName → Bool
are_words v (Words text) = same_text text v
are_words v (Path q) = false

-- words that are a type, and no qualified name
unfoldable pub is_type_text : Bytes → Bool
is_type_text v = is_run typing v && are_words v (type_of (tokens v))

abbrev pub is_type : TypeName → Bool
is_type (Words v) = is_type_text v
is_type (Path q) = is_path q

-- columns of a key: names, one at least
abbrev pub are_columns : List Bytes → Bool
are_columns [] = false
are_columns (name ∷ names) = list_all is_name (name ∷ names)

-- what may follow the columns of a key, or those of a foreign key's parent, or nothing
abbrev pub is_rest : Part (Unit {0}) → Bytes → Bool
is_rest p [] = true
is_rest p (b ∷ rest) = is_of_tokens (b ∷ rest) (is_all (p.read (tokens (b ∷ rest))))

-- a parent with its columns
abbrev pub is_parent : Option (QName × List Bytes) → Bool
is_parent None = false
is_parent (Some (q, names)) = is_path q && are_columns names
