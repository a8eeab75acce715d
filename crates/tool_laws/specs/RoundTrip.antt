-- A script that makes schemas anew: what it leaves of the catalogue of a fresh folder, whose one schema is public.
use Rattle.std.specs.Prelude.{◌≡◌, ℕ, List, [], ◌∷◌, map, true, false, Option, Some, None, Result, Ok, codes}
use Rattle.std.specs.Ordering.{eq_by_cmp}
use Rattle.std.specs.List.{AllByRecursion, IsDistinct}
use Rattle.std.specs.Option.{option_or}
use Rattle.std.specs.FinMap.{get}
use Rattle.copy_text.specs.Texts.{IsName}
use Rattle.dump_ports.specs.Tree.{Tree}
use Rattle.dump_ports.specs.declared.moment.Moment.{Moment}
use Rattle.cat_model.specs.declared.key.Key.{Key}
use Rattle.cat_model.specs.References.{is_system}
use Rattle.cat_model.specs.Values.{Bytes, bytes_cmp, Named}
use Rattle.schema_folders.specs.declared.schemas.SchemaRow.{SchemaRow}
use Rattle.ddl_scripts.specs.declared.located.Located.{Located}
use Rattle.command_line.specs.declared.values.Format.TheVariants as format
use Rattle.obj_graph.specs.Closed.{whole as all_of_it}
use Rattle.script_laws.specs.Scripts.{AllEntries}
use Rattle.toc_entry.specs.declared.entry.Entry.{Entry}
use Rattle.tool_words.specs.declared.words.ScriptSource.{ScriptSource}
use Rattle.tool_words.specs.declared.outcome.Outcome.{Outcome}
use Rattle.tool_words.specs.declared.words.DumpAsked.{DumpAsked}
use Rattle.tool_words.specs.Lines.{Appends}
use Rattle.dump_tools.specs.Outputs.{World}
use Rattle.dump_outputs.specs.Forms.{one_piece}
use Rattle.dump_plans.specs.Choosing.{select_of}
use Rattle.dump_tools.specs.Due.{Plan, Application, Applies, Puts, source_of, dump_due}
use Rattle.dump_tools.specs.Inputs.{HasTaken}
use Rattle.schema_folders.specs.Folder.{has_public, opening_of, schemas_alone, Holds}
use Rattle.schema_folders.specs.Naming.{boot, named}
use Rattle.schema_folders.specs.Run.{catalogue_after, refusals}
use Rattle.schema_folders.specs.Statements.{script_of}

-- the schema that each database has from the start; its oid occurs in no catalogue by names
abbrev pub fresh_rows : List SchemaRow
fresh_rows = record { oid = 2200; name = codes "public" } ∷ []

abbrev pub fresh : Named
fresh = named fresh_rows

-- one catalogue laid over another: its keys with their values, and all other keys of the one below
abbrev pub IsOverlay : Named → Named → Named → Type 0
IsOverlay below above both = (key : Key) → get both key ≡ option_or (get above key) (get below key)

-- Rows that can be made anew: each has a name, no two have the same, and none has a name that only the system gives.
pub record CanBeMade (rows : List SchemaRow) : Type 0 where
  pub names : AllByRecursion (λ row. IsName row.name) rows
  pub distinct : IsDistinct (λ a b. eq_by_cmp bytes_cmp a.name b.name) rows
  pub users : AllByRecursion (λ row. is_system row.name ≡ false) rows

-- The text is a script. Applied to a fresh folder none of its statements is refused, and they leave the rows laid over
-- what was there: the rows alone, where public is among them.
pub record Remakes (text : Bytes) (rows : List SchemaRow) : Type 0 where
  pub statements : List Located
  pub reads : script_of text ≡ Ok statements
  pub unrefused : refusals boot statements fresh ≡ []
  pub overlaid : IsOverlay fresh (named rows) (catalogue_after boot statements fresh)
  pub same : has_public rows ≡ true → catalogue_after boot statements fresh ≡ named rows

-- ---- the two tools

-- the schemas of a folder whose one schema is public, under any oid
abbrev pub public_alone : ℕ → List SchemaRow
public_alone oid = record { oid = oid; name = codes "public" } ∷ []

-- all of a folder is asked for as a script, with its owners
pub record AsksForAll (asked : DumpAsked) : Type 0 where
  pub plain : asked.format ≡ format.Plain
  pub whole : select_of asked.choice ≡ all_of_it

-- entries without the text of any rows
abbrev pub without_rows : List Entry → AllEntries
without_rows entries = map (λ e. (e, None)) entries

-- A dump and its way back. The folder source holds these rows. pg_dump of all of it puts out the text, to standard output or
-- to a file. The text is the script that psql is to apply, from a file or from standard input, to the folder target, whose one
-- schema is public.
pub record GoesBack (source : Bytes) (moment : Moment) (first : Tree) (rows : List SchemaRow) (target : Bytes) (script : ScriptSource) (second : Tree) (input : Bytes) : Type 0 where
  pub opened : opening_of source first ≡ Ok rows
  pub asked : DumpAsked
  pub of_source : asked.folder ≡ source
  pub all : AsksForAll asked
  pub text : Bytes
  pub dumped : dump_due asked moment first ≡ Ok (Puts (one_piece asked.target text None))
  pub passed : source_of script second input ≡ Ok text
  pub oid : ℕ
  pub fresh : opening_of target second ≡ Ok (public_alone oid)

-- What is due is a plan of psql that refuses nothing and leaves by names what these rows are.
pub record MakesSame (due : Result Plan Outcome) (rows : List SchemaRow) : Type 0 where
  pub plan : Application
  pub is_due : due ≡ Ok (Applies plan)
  pub unrefused : refusals boot plan.statements (named plan.rows) ≡ []
  pub same : catalogue_after boot plan.statements (named plan.rows) ≡ named rows

-- the folder holds the catalogue of schemas which by names are these rows
pub record StandsFor (folder : Bytes) (tree : Tree) (rows : List SchemaRow) : Type 0 where
  pub found : List SchemaRow
  pub holds : Holds folder tree (schemas_alone found)
  pub same : named found ≡ named rows

-- What was before is laid out anew: the folder stands for the rows, what is read of standard input was taken, standard
-- output is as it was, and nothing was told.
pub record Restores (target : Bytes) (rows : List SchemaRow) (reads : Option Bytes) (before after : World) : Type 0 where
  pub tree : Tree
  pub is : after.tree ≡ Some tree
  pub stands : StandsFor target tree rows
  pub left : HasTaken reads before.left after.left
  pub printed : after.printed ≡ before.printed
  pub told : Appends [] before.told after.told
