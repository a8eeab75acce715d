-- The scripts that psql takes so far: texts that read as statements, each of a kind that it carries out.
use Rattle.std.specs.Prelude.{ℕ, Bool, true, false, List, Result, Ok, Err, if◌then◌else◌}
use Rattle.std.specs.List.{list_all}
use Rattle.cat_model.specs.declared.grant.Owned.TheVariants as owned
use Rattle.cat_model.specs.declared.stmt.Stmt.{Stmt}
use Rattle.cat_model.specs.declared.stmt.Stmt.TheVariants as stmt
use Rattle.cat_model.specs.declared.words.What.TheVariants as what
use Rattle.ddl_read.specs.fault.DdlFault.{DdlFault}
use Rattle.ddl_read.specs.located.Located.{Located}
use Rattle.ddl_read.specs.Reading.{statements_of}
use Rattle.tool_words.specs.declared.outcome.Outcome.{Outcome}
use Rattle.tool_words.specs.declared.outcome.Outcome.TheVariants.{BadScript, OutOfProfile}

-- the kinds that are carried out: SET, set_config, CREATE SCHEMA and ALTER SCHEMA .. OWNER TO
abbrev pub is_taken : Stmt → Bool
is_taken (stmt.Set name value) = true
is_taken (stmt.SetConfig name value) = true
is_taken (stmt.CreateSchema name) = true
is_taken (stmt.OwnerTo (owned.Schema name) role) = true
is_taken _ = false

abbrev pub are_taken : List Located → Bool
are_taken statements = list_all (λ l. is_taken l.stmt) statements

-- what a text is that was read: its first fault, or statements, where each is of such a kind
abbrev pub scripted : Result (List Located) DdlFault → Result (List Located) Outcome
scripted (Err fault) = Err (BadScript fault)
scripted (Ok statements) = if are_taken statements then Ok statements else Err (OutOfProfile what.Unbuilt)

-- the statements of a script
unfoldable pub script_of : List ℕ → Result (List Located) Outcome
script_of text = scripted (statements_of text)
