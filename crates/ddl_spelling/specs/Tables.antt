-- The spelling of statements that make enums, domains and tables.
use Rattle.std.specs.{Prelude.ℕ, Prelude.Bool, Prelude.List, Prelude.[], Prelude.◌∷◌, Prelude.◌++◌, Prelude.map, Prelude.Option, Prelude.Some, Prelude.None, Prelude.codes, List.flat_map}
use Rattle.sql_lex.specs.Written.{written_name}
use Rattle.cat_model.specs.{declared.type_name.TypeName.TypeName, declared.table.ColumnDef.ColumnDef, declared.table.CheckDef.CheckDef}
use Rattle.cat_model.specs.declared.type_name.TypeName.TheVariants as type_name
use Rattle.ddl_spelling.specs.Paths.{path, joined, only_if}

-- a type as it is written
unfoldable pub type_text : TypeName → List ℕ
type_text (type_name.Words text) = text
type_text (type_name.Path q) = path q

-- DEFAULT and an expression, behind a space
abbrev pub given_default : Option (List ℕ) → List ℕ
given_default None = []
given_default (Some text) = codes " DEFAULT " ++ text

-- a name for a check, and its expression in brackets
unfoldable pub check_text : List ℕ → List ℕ → List ℕ
check_text name text = codes "CONSTRAINT " ++ written_name name ++ codes " CHECK (" ++ text ++ codes ")"

unfoldable pub column_text : ColumnDef → List ℕ
column_text c = joined (written_name c.name ∷ codes " " ∷ type_text c.type_name ∷ given_default c.default ∷ only_if c.not_null (codes " NOT NULL") ∷ [])

-- each text behind a line feed and four spaces, with commas between them
abbrev pub in_lines : List (List ℕ) → List ℕ
in_lines [] = []
in_lines (first ∷ more) = (codes "\n    " ++ first) ++ flat_map (λ line. codes ",\n    " ++ line) more

-- a type, NOT NULL, a default and checks, and the semicolon
unfoldable pub domain_text : TypeName → Bool → Option (List ℕ) → List CheckDef → List ℕ
domain_text base not_null default checks = joined (
    type_text base ∷ only_if not_null (codes " NOT NULL") ∷ given_default default ∷ flat_map (λ c. codes "\n\t" ++ check_text c.name c.text) checks ∷ codes ";" ∷ [])

-- a line for each column and then for each check
abbrev pub table_lines : List ColumnDef → List CheckDef → List (List ℕ)
table_lines columns checks = map column_text columns ++ map (λ c. check_text c.name c.text) checks
