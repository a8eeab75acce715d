-- What stands once a plan is carried out.
use Rattle.std.proofs.Common.{◌≡◌, List, [], map, Option, option_map, Result, Ok, Err, IfOk, OnErr, refl, sym, subst, ◌∙◌, inl, inr}
use Rattle.std.specs.List.Sorted.{IsPermutation}
use Rattle.dump_ports.specs.Tree.{Tree}
use Rattle.cat_rows.specs.declared.table.SysTable.TheVariants.{PgNamespace}
use Rattle.cat_rows.specs.Writing.{IsWritten}
use Rattle.cat_model.specs.Values.{Bytes}
use Rattle.schema_folders.specs.declared.schemas.SchemaRow.{SchemaRow}
use Rattle.schema_folders.specs.Naming.{boot, named}
use Rattle.schema_folders.specs.Run.{catalogue_after, Grown}
use Rattle.schema_folders.specs.Folder.{cells_of_row, folder_saved, schemas_alone, Holds, IsNamespaces}
use Rattle.openings.specs.Openings.{export_named}
use Rattle.saved_folders.specs.Exports.{WithTexts}
use Rattle.script_runs.specs.Stopping.{ending}
use Rattle.script_runs.specs.Writing.{IsUnwritten, StandFor}
use Rattle.tool_words.specs.declared.outcome.Outcome.{Outcome}
use Rattle.tool_words.specs.declared.outcome.Outcome.TheVariants.{Done, Usage, ReadFault, WriteFault, Missing, BadExport, BadScript, OutOfProfile, TooLarge, Differs, ScriptStopped, BadArchive, BadList, BadDefn, WithErrors, RestoreStopped, Loop, NoMatch, Memory}
use Rattle.tool_words.specs.Answers.{IsDue}
use Rattle.dump_tools.specs.Runs.{IsEarly}
use Rattle.dump_tools.specs.Due.{Application, Comes, Applied, Running, Runs, left_by_run, Leaves, IsAnswerDue}
use Rattle.schema_folders.proofs.Named.{named-IsPermutation}
use Rattle.schema_folders.proofs.Standing.{folder_holds}

-- what the statements come to
abbrev pub made_of : (plan : Application) (schemas : List SchemaRow) (text : Bytes) → Grown plan.rows schemas → named schemas ≡ catalogue_after boot plan.statements (named plan.rows) → IsNamespaces schemas text → Comes plan text
made_of plan schemas text g same n = record {
  made = g.made;
  rows = n.sorted;
  drawn = g.drawn;
  kept = subst (λ rows. IsPermutation rows n.sorted) g.stays n.kept;
  same = sym (named-IsPermutation schemas n.sorted n.kept) ∙ same;
  oids = n.oids;
  names = n.names;
  written = subst (λ rows. IsWritten PgNamespace (map cells_of_row rows) (map cells_of_row n.sorted) [] text) g.stays n.written;
}

-- a folder that is written so holds their catalogue
pub holds : (plan : Application) (schemas : List SchemaRow) (text : Bytes) (n : IsNamespaces schemas text) → (tree : Tree) → Holds plan.folder (folder_saved plan.folder text tree) (schemas_alone n.sorted)
holds plan schemas text n tree = folder_holds plan.folder text n.sorted tree n.reads

pub applied : (plan : Application) (schemas : List SchemaRow) (text : Bytes) (before after : Option Tree) → Grown plan.rows schemas → named schemas ≡ catalogue_after boot plan.statements (named plan.rows) → IsNamespaces schemas text
    → after ≡ option_map (folder_saved plan.folder text) before → Applied plan before after
applied plan schemas text before after g same n save = record {
  text = text;
  result = made_of plan schemas text g same n;
  saved = save;
  holds = holds plan schemas text n;
}

-- ---- a script that runs on an opening

-- what it leaves isn't written
pub unmade_due : (outcome : Outcome) (plan : Running) → IsUnwritten plan.opening.cat (left_by_run plan) outcome → IsAnswerDue outcome (Ok (Runs plan))
unmade_due Done plan h = elim h [ ]
unmade_due (Usage word kind) plan h = elim h [ ]
unmade_due ReadFault plan h = elim h [ ]
unmade_due WriteFault plan h = elim h [ ]
unmade_due (Missing name) plan h = elim h [ ]
unmade_due (BadExport file line kind) plan h = elim h [ ]
unmade_due (BadScript fault) plan h = elim h [ ]
unmade_due (OutOfProfile what) plan h = inr (inr (h.0, inl (plan, refl, h.1)))
unmade_due (TooLarge what most) plan h = inr (inr (inl (plan, refl, h)))
unmade_due (Differs key) plan h = elim h [ ]
unmade_due (ScriptStopped stop) plan h = elim h [ ]
unmade_due (BadArchive fault) plan h = elim h [ ]
unmade_due (BadList fault) plan h = elim h [ ]
unmade_due (BadDefn entry fault) plan h = elim h [ ]
unmade_due (WithErrors errors) plan h = elim h [ ]
unmade_due (RestoreStopped stop) plan h = elim h [ ]
unmade_due (Loop path) plan h = elim h [ ]
unmade_due (NoMatch pattern) plan h = elim h [ ]
unmade_due Memory plan h = inl tt

-- texts of a folder that stands for what the statements make
pub leaves : (plan : Running) (made : WithTexts) → StandFor plan.opening.cat (left_by_run plan) made → Leaves plan made.texts
leaves plan made stands = record { export = made.export; same = stands.same; reads = stands.reads; made_of = stands.made_of }

-- ---- an answer of which two things are known

pub both_ok : {X Y : Type 0} (r : Result X Y) (P Q : X → Type 0) → IfOk r P → IfOk r Q → IfOk r (λ x. P x × Q x)
both_ok (Ok x) P Q p q = (p, q)
both_ok (Err y) P Q p q = tt

-- ---- what is known once the files are told

pub under_ok : {X Y : Type 0} (r : Result X Y) (A : Tree → Type 0) (P : Tree → X → Type 0) → ((tree : Tree) → A tree → IfOk r (P tree)) → IfOk r (λ x. (tree : Tree) → A tree → P tree x)
under_ok (Ok x) A P h = h
under_ok (Err y) A P h = tt

pub under_err : {X Y : Type 0} (r : Result X Y) (A : Tree → Type 0) (B : Tree → Type 0) → ((tree : Tree) → A tree → OnErr r (B tree)) → OnErr r ((tree : Tree) → A tree → B tree)
under_err (Ok x) A B h = tt
under_err (Err y) A B h = h

-- an answer by which the work ended on its way is due at any step
pub early_due : {Y : Type 0} (answer : Outcome) (due : Result Y Outcome) → IsEarly answer → IsDue answer due
early_due Done due e = elim e [ ]
early_due (Usage word kind) due e = elim e [ ]
early_due ReadFault due e = tt
early_due WriteFault due e = tt
early_due (Missing name) due e = elim e [ ]
early_due (BadExport file line kind) due e = elim e [ ]
early_due (BadScript fault) due e = elim e [ ]
early_due (OutOfProfile what) due e = elim e [ ]
early_due (TooLarge what most) due e = elim e [ ]
early_due (Differs key) due e = elim e [ ]
early_due (ScriptStopped stop) due e = elim e [ ]
early_due (BadArchive fault) due e = elim e [ ]
early_due (BadList fault) due e = elim e [ ]
early_due (BadDefn entry fault) due e = elim e [ ]
early_due (WithErrors errors) due e = elim e [ ]
early_due (RestoreStopped stop) due e = elim e [ ]
early_due (Loop path) due e = elim e [ ]
early_due (NoMatch pattern) due e = elim e [ ]
early_due Memory due e = tt
