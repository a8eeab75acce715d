-- Statements that lie in a text, each as it is written, with empty lines and lines of comments before them, between them and
-- behind them.
use Rattle.std.specs.{Prelude.◌≡◌, Prelude.ℕ, Prelude.true, Prelude.List, Prelude.[], Prelude.◌∷◌, Prelude.◌++◌, List.list_all, Str.IsUtf8}
use Rattle.sql_lex.specs.Bytes.{in_line}
use Rattle.cat_model.specs.declared.stmt.Stmt.{Stmt}
use Rattle.ddl_grammar.specs.{Respelling.spelling, Respelling.IsWritable}

-- what may stand behind two dashes up to the end of their line
abbrev pub IsShown : List ℕ → Type 0
IsShown line = (list_all in_line line ≡ true) × IsUtf8 line

-- a comment to the end of its line
abbrev pub comment : List ℕ → List ℕ
comment line = (45 ∷ 45 ∷ line) ++ 10 ∷ []

pub data Lays : List ℕ → List Stmt → Type 0 where
  no_more : Lays [] []
  empty_line : (text : List ℕ) (statements : List Stmt) → Lays text statements → Lays (10 ∷ text) statements
  comment_line : (line text : List ℕ) (statements : List Stmt) → IsShown line → Lays text statements → Lays (comment line ++ text) statements
  statement_text : (s : Stmt) (text : List ℕ) (statements : List Stmt) → IsWritable s → Lays text statements → Lays (spelling s ++ text) (s ∷ statements)
