-- The grammar of the columns of COPY.
use Rattle.std.specs.Prelude.{ℕ, List, []}
use Rattle.ddl_parts.specs.{Lexemes.is_sign, Parts.Part, Parts.choose, Parts.nothing}
use Rattle.ddl_grammar.specs.{Columns.columns}

-- columns in brackets, or none, which stand for all
unfoldable pub some_columns : Part (List (List ℕ))
some_columns = choose (is_sign 40) columns (nothing (is_sign 40) [])
