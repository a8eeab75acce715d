-- A script applied to a catalogue: its statements one after another, where a refused one changes nothing.
use Rattle.std.specs.Prelude.{◌≡◌, ℕ, ◌≤◌, ◌++◌, false, List, [], ◌∷◌, Result, Ok, Err}
use Rattle.std.specs.List.{All}
use Rattle.cat_model.specs.declared.cause.Cause.{Cause}
use Rattle.cat_model.specs.declared.cause.Cause.TheVariants as causes
use Rattle.cat_model.specs.declared.key.Key.TheVariants as key
use Rattle.cat_model.specs.declared.stmt.Stmt.{Stmt}
use Rattle.cat_model.specs.Effects.{effect}
use Rattle.cat_model.specs.References.{is_system}
use Rattle.cat_model.specs.Trees.{run}
use Rattle.cat_model.specs.Values.{Bytes, Named}
use Rattle.ddl_read.specs.located.Located.{Located}
use Rattle.schema_folders.specs.declared.schemas.SchemaRow.{SchemaRow}
use Rattle.schema_folders.specs.declared.schemas.SchemaCause.{SchemaCause}
use Rattle.schema_folders.specs.declared.schemas.SchemaCause.TheVariants as why
use Rattle.tool_words.specs.Messages.{Refusal}

-- what a statement says of a catalogue
abbrev pub said : Bytes → Stmt → Named → Result Named Cause
said boot statement named = run (effect boot statement) named

-- the cause of a refusal, as the catalogue's model has it
abbrev pub cause_of : SchemaCause → Cause
cause_of (why.Exists schema) = causes.Exists (key.Schema schema)
cause_of (why.NoSchema schema) = causes.Absent (key.Schema schema)
cause_of (why.NoRole role) = causes.Absent (key.Role role)

abbrev pub next : Named → Result Named Cause → Named
next before (Ok after) = after
next before (Err cause) = before

abbrev pub noted : ℕ → Result Named Cause → List Refusal
noted at (Ok after) = []
noted at (Err cause) = (at, cause) ∷ []

-- the catalogue after the statements
abbrev pub catalogue_after : Bytes → List Located → Named → Named
catalogue_after boot [] named = named
catalogue_after boot (located ∷ more) named = catalogue_after boot more (next named (said boot located.stmt named))

-- the statements that were refused, in order
abbrev pub refusals : Bytes → List Located → Named → List Refusal
refusals boot [] named = []
refusals boot (located ∷ more) named = noted located.start (said boot located.stmt named) ++ refusals boot more (next named (said boot located.stmt named))

-- a user's schema: its oid isn't one of the system's own, nor its name
abbrev pub IsUsers : SchemaRow → Type 0
IsUsers row = (16384 ≤ row.oid) × (is_system row.name ≡ false)

-- the schemas that were there, and behind them those that were made, each a user's
pub record Grown (before after : List SchemaRow) : Type 0 where
  pub made : List SchemaRow
  pub stays : after ≡ before ++ made
  pub drawn : All IsUsers made
