-- Texts of a row that stand whole for a part of the grammar: all of their tokens together belong to it. Blanks and
-- comments around are free.
use Rattle.std.specs.Prelude.{◌≡◌, List, [], ◌∷◌, Option, Some, None, Ok, Err}
use Rattle.std.specs.Option.{option_and_then}
use Rattle.cat_model.specs.Values.{Bytes}
use Rattle.ddl_part_laws.specs.Lexemes.{Lexeme}
use Rattle.ddl_part_laws.specs.Parts.{Part, Reading}
use Rattle.row_texts.specs.Tokens.{all_tokens}

abbrev pub if_no_more : {A : Type 0} → A → List Lexeme → Option A
if_no_more v [] = Some v
if_no_more v (t ∷ ts) = None

-- what was read, where no token is left
abbrev pub all_read : {A : Type 0} → Reading A → Option A
all_read (Ok x) = if_no_more x.0 x.1
all_read (Err stop) = None

-- what a text stands for as a whole, by a part of the grammar
abbrev pub whole : {A : Type 0} → Part A → Bytes → Option A
whole part text = option_and_then (λ ts. all_read (part.read ts)) (all_tokens text)

-- all tokens of a text together spell a value
abbrev pub SpellsWhole : {A : Type 0} → Part A → Bytes → A → Type 0
SpellsWhole part text v = (ts : List Lexeme) × (all_tokens text ≡ Some ts) × part.Spells v ts
