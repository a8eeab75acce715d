-- The texts that rows may hold for what a catalogue by names has: each reads as it.
use Rattle.std.specs.Prelude.{List, Option, Some, None, [], ◌∷◌, ◌++◌, codes, if◌then◌else◌}
use Rattle.cat_model.specs.declared.object.QName.{QName}
use Rattle.cat_model.specs.declared.constraint.ConstraintKind.{ConstraintKind}
use Rattle.cat_model.specs.declared.constraint.ConstraintKind.TheVariants as kinds
use Rattle.cat_model.specs.declared.value.Constraint.{Constraint}
use Rattle.cat_model.specs.declared.value.Index.{Index}
use Rattle.cat_model.specs.Values.{Bytes}
use Rattle.sql_lex.specs.Written.{written_name}
use Rattle.ddl_laws.specs.Keys.{rest_text}
use Rattle.ddl_laws.specs.Paths.{path, listed}

-- a body with its semicolon
abbrev pub body_text : Bytes → Bytes
body_text body = body ++ 59 ∷ []

abbrev pub index_words : Index → Bytes
index_words i = if i.unique then codes "CREATE UNIQUE INDEX " else codes "CREATE INDEX "

-- the statement that makes an index, without its semicolon
abbrev pub index_text : QName → Bytes → Index → Bytes
index_text q name i =
    index_words i ++ (written_name name ++ (codes " ON " ++ (path q ++ (codes " USING " ++ (written_name i.method ++ (codes " " ++ i.text))))))

-- what follows a constraint's name: the columns of a key and what is said of it
abbrev pub key_said : Bytes → List Bytes → Bytes → Bytes
key_said words columns rest = words ++ (listed columns ++ rest_text rest)

abbrev pub foreign_said : List Bytes → QName → List Bytes → Bytes → Bytes
foreign_said columns parent parents rest = codes "FOREIGN KEY " ++ (listed columns ++ (codes " REFERENCES " ++ (path parent ++ (listed parents ++ rest_text rest))))

abbrev pub check_said : Bytes → Bytes
check_said text = codes "CHECK (" ++ (text ++ 41 ∷ [])

-- the table and the name that stand before it where it is read
abbrev pub some_table : QName
some_table = record { schema = codes "a"; name = codes "a" }

abbrev foreign_text : Constraint → Option (QName × List Bytes) → Bytes
foreign_text c None = []
foreign_text c (Some (parent, parents)) = foreign_said c.columns parent parents c.text

abbrev text_of_kind : Constraint → ConstraintKind → Bytes
text_of_kind c kinds.Primary = key_said (codes "PRIMARY KEY ") c.columns c.text
text_of_kind c kinds.Unique = key_said (codes "UNIQUE ") c.columns c.text
text_of_kind c kinds.Foreign = foreign_text c c.parent
text_of_kind c kinds.Check = check_said c.text

-- the text of a constraint of a table
abbrev pub constraint_text : Constraint → Bytes
constraint_text c = text_of_kind c c.kind
