-- What follows the method of an index.
use Rattle.std.specs.Prelude.{ℕ, List}
use Rattle.ddl_parts.specs.{Lexemes.is_sign, Parts.Part, Expressions.expression}
use Rattle.ddl_grammar.specs.Clauses.{begun_by}

-- the text of a run with balanced brackets, from an opening bracket on
unfoldable pub bracketed : Part (List ℕ)
bracketed = begun_by (is_sign 40) expression
