-- The part of an entry in a script: a comment that names it, its statements, and its owner statement.
-- The rows of a table stand in place of statements, as the input of its COPY statement.
use Rattle.std.specs.Prelude.{ℕ, Bool, List, [], ◌∷◌, ◌++◌, Option, None, unwrap_or, if◌then◌else◌, codes}
use Rattle.std.specs.List.{list_any}
use Rattle.std.specs.Str.{bytes_eq}
use Rattle.toc_entry.specs.declared.entry.Entry.{Entry}
use Rattle.fmt_text.specs.Lines.{title, shown, shown_or_dash}
use Rattle.fmt_text.specs.Owners.{owner_part}

-- the kinds of entries that are no object: what they set stands at the script's head, or it is the database itself
abbrev pub session_kinds : List (List ℕ)
session_kinds = codes "ENCODING" ∷ codes "STDSTRINGS" ∷ codes "SEARCHPATH" ∷ codes "DATABASE" ∷ codes "DATABASE PROPERTIES" ∷ []

abbrev pub is_of_session : List ℕ → Bool
is_of_session desc = list_any (λ kind. bytes_eq kind desc) session_kinds

abbrev pub is_table_data : List ℕ → Bool
is_table_data desc = bytes_eq (codes "TABLE DATA") desc

abbrev pub group : Entry → List ℕ
group e = if is_table_data e.desc then codes "Data for Name: " else codes "Name: "

-- who owns the object, which a script without owners doesn't tell
abbrev pub told_owner : Bool → Entry → Option (List ℕ)
told_owner owners e = if owners then e.owner else None

-- what an entry is called
unfoldable pub about : Bool → Entry → List ℕ
about owners e = group e ++ shown e.tag ++ codes "; Type: " ++ shown e.desc ++ codes "; Schema: " ++ shown_or_dash e.namespace ++ codes "; Owner: " ++ shown_or_dash (told_owner owners e)

-- a text, and none where it isn't there
abbrev pub text_or_none : Option (List ℕ) → List ℕ
text_or_none text = unwrap_or text []

-- the statements and two empty lines; or the COPY statement and the rows, which end with two
unfoldable pub body : Entry → Option (List ℕ) → List ℕ
body e rows = if is_table_data e.desc then text_or_none e.copy_stmt ++ text_or_none rows else text_or_none e.defn ++ codes "\n\n"

-- the part of an entry and its rows
unfoldable pub part : Bool → Entry → Option (List ℕ) → List ℕ
part owners e rows = if is_of_session e.desc then [] else title (about owners e) ++ body e rows ++ owner_part owners e
