-- A part of the grammar whose value decides what stands behind it.
use Rattle.std.specs.Prelude.{◌≡◌, List, ◌++◌}
use Rattle.ddl_parts.specs.{Lexemes.Lexeme, Lexemes.never, Parts.Part, Parts.◌>>=◌}

-- A value of the first, and then a value of the part that it decides. What it decides goes on with no further token.
infixr 20 ◌thenby◌
abbrev pub ◌thenby◌ : {A B : Type 0} → Part A → (A → Part B) → Part B
◌thenby◌ {A} {B} p f = record {
  Spells = λ w ts. (v : A) × (a : List Lexeme) × (b : List Lexeme) × (ts ≡ a ++ b) × p.Spells v a × (f v).Spells w b;
  read = λ ts. p.read ts >>= λ x. (f x.0).read x.1;
  goes_on = never;
}
