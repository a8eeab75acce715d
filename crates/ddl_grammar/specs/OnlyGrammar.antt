-- The path of a table, before which ONLY may stand.
-- ONLY before a table is a key word, unless a dot follows it: then it is the name of a schema.
use Rattle.std.specs.Prelude.{ℕ, Bool, false, List, Result, Err, if◌then◌else◌, codes}
use Rattle.cat_model.specs.declared.object.QName.{QName}
use Rattle.ddl_parts.specs.{Lexemes.Lexeme, Lexemes.is_word, Lexemes.is_sign, Parts.Part, Parts.one, Parts.seen, Parts.choose, Parts.◌then◌, Parts.◌▸◌, Leaves.name, Leaves.name_value, Leaves.qualified}

-- the bare word ONLY as a name
unfoldable pub only_value : Lexeme → Result (List ℕ) Bool
only_value t = if is_word (codes "only") t then name_value t else Err false

abbrev pub only_name : Part (List ℕ)
only_name = one only_value

-- a name that isn't the bare word ONLY
unfoldable pub other_value : Lexeme → Result (List ℕ) Bool
other_value t = if is_word (codes "only") t then Err false else name_value t

abbrev pub other_name : Part (List ℕ)
other_name = one other_value

abbrev pub path_of : List ℕ × List ℕ → QName
path_of x = record { schema = x.0; name = x.1 }

-- a path that doesn't begin with the bare word ONLY
unfoldable pub other_path : Part QName
other_path = seen path_of (other_name then (is_sign 46 ▸ name))

-- what stands behind the word ONLY: a dot and a name, so that the word was a schema, or a path
pub data BehindOnly (A : Type 0) : Type 0 where
  in_schema : List ℕ → A → BehindOnly A
  key_word : QName → A → BehindOnly A

-- . name and a change, or path and a change of the table alone
abbrev pub behind_only : {A : Type 0} → Part A → Part A → Part (BehindOnly A)
behind_only own change =
    choose (is_sign 46) (seen (λ x. in_schema x.0 x.1) (is_sign 46 ▸ (name then change)))
    (seen (λ x. key_word x.0 x.1) (qualified then own))

abbrev pub only_path : {A : Type 0} → List ℕ → BehindOnly A → QName × A
only_path schema (in_schema n change) = (record { schema = schema; name = n }, change)
only_path schema (key_word q change) = (q, change)

-- path and a change; or ONLY path and a change of the table alone
abbrev pub table_and : {A : Type 0} → Part A → Part A → Part (QName × A)
table_and own change =
    choose (is_word (codes "only")) (seen (λ x. only_path x.0 x.1) (only_name then behind_only own change))
    (other_path then change)
