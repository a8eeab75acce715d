-- The spellings of several statements joined, and what located statements say.
use Rattle.std.specs.Prelude.{ℕ, List, [], ◌∷◌, ◌++◌, map}
use Rattle.cat_model.specs.declared.stmt.Stmt.{Stmt}
use Rattle.ddl_grammar.specs.Respelling.{spelling}
use Rattle.ddl_scripts.specs.declared.located.Located.{Located}

-- the spellings of statements, one after another
abbrev pub spellings : List Stmt → List ℕ
spellings [] = []
spellings (s ∷ more) = spelling s ++ spellings more

-- what located statements say
abbrev pub said : List Located → List Stmt
said found = map (λ l. l.stmt) found
