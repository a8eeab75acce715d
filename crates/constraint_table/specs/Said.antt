-- What the text of a constraint says. It is what follows the constraint's name in ALTER TABLE .. ADD CONSTRAINT, so it is
-- read as a whole statement of that kind. A domain's checks are spelled alike.
use Rattle.std.specs.Prelude.{ℕ, ◌==◌, List, [], ◌∷◌, ◌++◌, length, Option, Some, None, Result, Ok, codes, if◌then◌else◌}
use Rattle.std.specs.Option.{option_and_then}
use Rattle.cat_model.specs.declared.stmt.Stmt.{Stmt}
use Rattle.cat_model.specs.declared.stmt.Stmt.TheVariants as stmt
use Rattle.cat_model.specs.Values.{Bytes}
use Rattle.ddl_read.specs.fault.DdlFault.{DdlFault}
use Rattle.ddl_read.specs.located.Located.{Located}
use Rattle.ddl_read.specs.Reading.{statements_of}
use Rattle.constraint_table.specs.declared.constraint_text.ConstraintText.{ConstraintText}
use Rattle.constraint_table.specs.declared.constraint_text.ConstraintText.TheVariants.{Primary, Unique, Foreign, Check}

-- the statement that adds a constraint of this text to some table
abbrev pub statement_text : Bytes → Bytes
statement_text text = codes "ALTER TABLE ONLY a.a ADD CONSTRAINT a " ++ (text ++ 10 ∷ 59 ∷ [])

-- the one statement that a text is, up to its last byte
abbrev pub only_statement : ℕ → Result (List Located) DdlFault → Option Stmt
only_statement end (Ok (one ∷ [])) = if one.end == end then Some one.stmt else None
only_statement end _ = None

-- what a statement says of a constraint
abbrev pub said_by : Stmt → Option ConstraintText
said_by (stmt.AddPrimary q name columns rest) = Some (Primary columns)
said_by (stmt.AddUnique q name columns rest) = Some (Unique columns)
said_by (stmt.AddForeign q name columns parent parent_columns rest) = Some (Foreign columns parent parent_columns)
said_by (stmt.AddCheck q name text) = Some (Check text)
said_by _ = None

-- the statement that a constraint's text makes of it
abbrev pub statement_said : Bytes → Option Stmt
statement_said text = only_statement (length (statement_text text)) (statements_of (statement_text text))

-- what the text of a constraint says
unfoldable pub constraint_said : Bytes → Option ConstraintText
constraint_said text = option_and_then said_by (statement_said text)
