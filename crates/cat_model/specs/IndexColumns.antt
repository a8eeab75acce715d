-- The columns of an index that are plain: its text is a bracket of names and nothing else.
use Rattle.std.specs.Prelude.{Bool, true, false, ◌&&◌, List, [], ◌∷◌, Option, Some, None, if◌then◌else◌}
use Rattle.std.specs.Option.{option_map}
use Rattle.copy_text.specs.Texts.{is_name}
use Rattle.cat_model.specs.Values.{Bytes}
use Rattle.cat_model.specs.Lexemes.{Lexeme, lexemes, is_sign, name_in, no_more}

-- a name, where the lexeme spells one
abbrev pub checked_name : Option Bytes → Option Bytes
checked_name (Some name) = if is_name name then Some name else None
checked_name None = None

abbrev pub onto_names : Option Bytes → Option (List Bytes) → Option (List Bytes)
onto_names (Some name) (Some names) = Some (name ∷ names)
onto_names _ _ = None

-- names with commas between, up to a closing bracket with nothing behind it
abbrev pub names_to_bracket : List Lexeme → Option (List Bytes)
names_to_bracket [] = None
names_to_bracket (x ∷ []) = None
names_to_bracket (x ∷ mark ∷ rest) =
    onto_names (checked_name (name_in x))
    (if is_sign 44 mark then names_to_bracket rest
    else if is_sign 41 mark && no_more rest then Some []
    else None)

abbrev pub names_in_brackets : List Lexeme → Option (List Bytes)
names_in_brackets [] = None
names_in_brackets (open_bracket ∷ rest) = if is_sign 40 open_bracket then names_to_bracket rest else None

unfoldable pub plain_columns : Bytes → Option (List Bytes)
plain_columns text = names_in_brackets (lexemes text)
