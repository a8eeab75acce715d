-- Statements that can be written, the one text of each, and the texts of several joined.
use Rattle.std.specs.{Prelude.◌≡◌, Prelude.ℕ, Prelude.true, Prelude.List, Prelude.[], Prelude.◌∷◌, Prelude.◌++◌, Prelude.codes, List.list_all}
use Rattle.copy_text.specs.Texts.{IsName}
use Rattle.sql_lex.specs.Bytes.{in_line}
use Rattle.cat_model.specs.declared.stmt.Stmt.{Stmt}
use Rattle.cat_model.specs.declared.stmt.Stmt.TheVariants as stmt
use Rattle.ddl_spelling.specs.{Paths.joined, Roles.connect_text, RowsText.last_line}
use Rattle.ddl_grammar.specs.{Rows.AreRows, Syntax.Fits, Syntax.pieces, Grammar.command}
pub use Rattle.ddl_grammar.specs.Writable.{IsGivenText, IsLimit, AreChanges, AreColumns, IsRest, IsDefault, IsCheck, IsColumn, IsTyped, IsSequence}
pub use Rattle.ddl_parts.specs.Texts.{IsInt, IsPath, IsTextOf, IsExpressionText, IsBracketText, IsDefaultText, IsType}

-- What a statement is made of is what it should be: names are names, texts are texts, expressions are expressions,
-- rows are lines that are ended and none of them the line \., and a database that is connected to has no line feed in
-- its name.
abbrev pub IsWritable : Stmt → Type 0
IsWritable (stmt.CopyRows q columns rows) = Fits command (stmt.CopyRows q columns []) × AreRows rows
IsWritable (stmt.Connect n) = IsName n × (list_all in_line n ≡ true)
IsWritable s = Fits command s

abbrev pub AllWritable : List Stmt → Type 0
AllWritable [] = Unit {0}
AllWritable (s ∷ more) = IsWritable s × AllWritable more

-- a statement that is tokens, and a line feed
unfoldable pub in_words : Stmt → List ℕ
in_words s = joined (pieces [] command s) ++ codes "\n"

-- the one text of a statement
unfoldable pub spelling : Stmt → List ℕ
spelling (stmt.CopyRows q columns rows) = in_words (stmt.CopyRows q columns []) ++ (rows ++ last_line)
spelling (stmt.Connect name) = connect_text name
spelling s = in_words s
