-- The grammar of what a domain and a table are made of.
use Rattle.std.specs.Prelude.{ℕ, Bool, true, false, ◌||◌, List, [], ◌∷◌, Option, Some, None, Result, Err, if◌then◌else◌, codes}
use Rattle.cat_model.specs.{declared.type_name.TypeName.TypeName, declared.table.ColumnDef.ColumnDef, declared.table.CheckDef.CheckDef}
use Rattle.ddl_parts.specs.{Lexemes.Lexeme, Lexemes.is_word, Parts.Part, Parts.Items, Parts.one, Parts.seen, Parts.choose, Parts.nothing, Parts.optional, Parts.many, Parts.◌then◌, Parts.◌▸◌, Parts.◌◂◌, Lists.comma, Leaves.name_value, Leaves.is_name, Expressions.default_text, Expressions.default_and_null, Types.type_goes_on, Types.type_part}
use Rattle.ddl_grammar.specs.{declared.tables.TableElement.TableElement, declared.tables.TableElement.TheVariants.Column, declared.tables.TableElement.TheVariants.Check, declared.tables.Spot.Spot, declared.tables.Spot.TheVariants.Opening, declared.tables.Spot.TheVariants.BehindColumn, declared.tables.Spot.TheVariants.BehindCheck, Clauses.semicolon, Clauses.named_check}

-- ---- types with what may follow them

-- tokens that could still belong to a type, or with which a default or NOT NULL begins
abbrev pub more_attributes : Lexeme → Bool
more_attributes t = is_word (codes "not") t || (is_word (codes "default") t || type_goes_on t)

-- a default, and whether NOT NULL is said
abbrev pub Attributes : Type 0
Attributes = Option (List ℕ) × Bool

abbrev pub not_null : Option (List ℕ) → Attributes
not_null default = (default, true)

abbrev pub given : List ℕ × Bool → Attributes
given x = (Some x.0, x.1)

-- NOT NULL, behind which a default may follow
unfoldable pub null_first : Part Attributes
null_first =
    seen not_null (is_word (codes "not") ▸ (is_word (codes "null") ▸ optional (is_word (codes "default")) (is_word (codes "default") ▸ default_text)))

-- a default, behind which NOT NULL may follow
unfoldable pub default_first : Part Attributes
default_first = seen given (is_word (codes "default") ▸ default_and_null)

unfoldable pub attributes : Part Attributes
attributes = choose (is_word (codes "not")) null_first (choose (is_word (codes "default")) default_first (nothing more_attributes (None, false)))

-- a type, and a default and NOT NULL in either order
unfoldable pub typed : Part (TypeName × Attributes)
typed = type_part then attributes

-- ---- CREATE DOMAIN ..

-- checks one after another
abbrev pub checking : Items CheckDef
checking = record {
  State = Unit {0};
  start = tt;
  more = λ s. is_word (codes "constraint");
  item = λ s. named_check;
  next = λ s v. tt;
}

-- type, default, NOT NULL and checks;
unfoldable pub domain_rest : Part ((TypeName × Attributes) × List CheckDef)
domain_rest = typed then (many (is_word (codes "constraint")) checking ◂ semicolon)

-- ---- CREATE TABLE ..

-- the name of a column, which isn't the bare word CONSTRAINT
unfoldable pub column_name_value : Lexeme → Result (List ℕ) Bool
column_name_value t = if is_word (codes "constraint") t then Err false else name_value t

abbrev pub column_name : Part (List ℕ)
column_name = one column_name_value

abbrev pub column_of : List ℕ × (TypeName × Attributes) → ColumnDef
column_of x = record { name = x.0; type_name = x.1.0; default = x.1.1.0; not_null = x.1.1.1 }

unfoldable pub column : Part ColumnDef
column = seen column_of (column_name then typed)

-- the bare word CONSTRAINT begins a check
unfoldable pub element : Part TableElement
element = choose (is_word (codes "constraint")) (seen Check named_check) (seen Column column)

-- a check, behind which no column stands
unfoldable pub last_element : Part TableElement
last_element = seen Check named_check

abbrev pub element_begins : Spot → Lexeme → Bool
element_begins Opening = is_name
element_begins BehindColumn = comma
element_begins BehindCheck = comma

abbrev pub element_at : Spot → Part TableElement
element_at Opening = element
element_at BehindColumn = comma ▸ element
element_at BehindCheck = comma ▸ last_element

abbrev pub spot_behind : TableElement → Spot
spot_behind (Column c) = BehindColumn
spot_behind (Check c) = BehindCheck

-- columns and then checks, with commas between them
abbrev pub elements : Items TableElement
elements = record {
  State = Spot;
  start = Opening;
  more = element_begins;
  item = element_at;
  next = λ s v. spot_behind v;
}

abbrev pub columns_of : List TableElement → List ColumnDef
columns_of [] = []
columns_of (Column c ∷ more) = c ∷ columns_of more
columns_of (Check c ∷ more) = columns_of more

abbrev pub checks_of : List TableElement → List CheckDef
checks_of [] = []
checks_of (Column c ∷ more) = checks_of more
checks_of (Check c ∷ more) = c ∷ checks_of more

abbrev pub more_elements : Lexeme → Bool
more_elements t = is_name t || (comma t || element.goes_on t)

abbrev pub parted : List TableElement → List ColumnDef × List CheckDef
parted es = (columns_of es, checks_of es)

unfoldable pub table_elements : Part (List ColumnDef × List CheckDef)
table_elements = seen parted (many more_elements elements)
