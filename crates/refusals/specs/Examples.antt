-- Refused statements of the worked examples, and the report of them.
use Rattle.std.specs.Prelude.{ℕ, List, [], ◌∷◌, codes}
use Rattle.cat_model.specs.declared.object.QName.{QName}
use Rattle.cat_model.specs.declared.object.Object.TheVariants.{Schema as OfSchema}
use Rattle.cat_model.specs.declared.key.Key.TheVariants.{Schema, Role, Member, Rel, Default, Acl}
use Rattle.cat_model.specs.declared.cause.Cause.TheVariants.{Exists, Absent, BadValue, NullValue, Duplicate, NoParent, WrongColumns, KeyMissing, OutOfRange, Fields, BadRow}
use Rattle.copy_text.specs.declared.fault.CopyFault.TheVariants.{RawReturn}
use Rattle.tool_words.specs.Messages.{Refusal}

abbrev pub orders : QName
orders = record { schema = codes "public"; name = codes "orders" }

-- objects that are there or aren't, with names that stand in quotes or don't
abbrev pub of_objects : List Refusal
of_objects =
    (0, Exists (Schema (codes "a")))
    ∷ (17, Absent (Role (codes "A b")))
    ∷ (33, Absent (Member (codes "r") (codes "m") (codes "select")))
    ∷ (240, Exists (Default orders (codes "id")))
    ∷ (1000, Absent (Acl (OfSchema (codes "public"))))
    ∷ (65536, KeyMissing (Rel orders))
    ∷ []

abbrev pub of_objects_told : List ℕ
of_objects_told = codes "psql: error: at 0: schema a already exists\npsql: error: at 17: role \"A b\" does not exist\npsql: error: at 33: member r m \"select\" does not exist\npsql: error: at 240: default public.orders id already exists\npsql: error: at 1000: grants public does not exist\npsql: error: at 65536: relation public.orders has no such key\n"

-- rows, columns and numbers
abbrev pub of_rows : List Refusal
of_rows =
    (1, BadValue 2 3)
    ∷ (2, NullValue 4 5)
    ∷ (3, Duplicate (codes "orders_pkey") 6 7)
    ∷ (4, NoParent (codes "o c") 8)
    ∷ (5, WrongColumns)
    ∷ (6, OutOfRange)
    ∷ (7, Fields 9 10)
    ∷ (8, BadRow 11 (RawReturn 0))
    ∷ []

abbrev pub of_rows_told : List ℕ
of_rows_told = codes "psql: error: at 1: row 3 column 2 has a bad value\npsql: error: at 2: row 5 column 4 is null\npsql: error: at 3: rows 6 and 7 have one key for orders_pkey\npsql: error: at 4: row 8 has no parent for \"o c\"\npsql: error: at 5: wrong columns\npsql: error: at 6: value out of range\npsql: error: at 7: row 9 has 10 fields\npsql: error: at 8: row 11 is not COPY text\n"
