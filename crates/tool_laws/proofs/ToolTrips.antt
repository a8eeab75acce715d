-- What pg_dump prints of a folder, applied by psql to a fresh one.
use Rattle.std.proofs.Common.{true, ◌≡◌, ℕ, false, List, [], ◌++◌, length, drop, Option, Some, None, option_map, Result, Ok, refl, sym, ap, subst, ◌∙◌}
use Rattle.dump_ports.specs.Tree.{Tree}
use Rattle.dump_ports.specs.declared.moment.Moment.{Moment}
use Rattle.cat_model.specs.Values.{Bytes}
use Rattle.dump_toc.specs.Toc.{toc}
use Rattle.fmt_text.specs.Script.{script}
use Rattle.obj_graph.specs.Closed.{whole}
use Rattle.toc_entry.specs.declared.entry.Entry.{Entry}
use Rattle.toc_entry.specs.declared.head.Head.{Head}
use Rattle.std.specs.Str.{IsUtf8}
use Rattle.schema_folders.specs.declared.schemas.SchemaRow.{SchemaRow}
use Rattle.tool_words.specs.declared.words.ScriptSource.{ScriptSource}
use Rattle.tool_words.specs.Words.{is_input}
use Rattle.tool_words.specs.declared.outcome.Outcome.{Outcome}
use Rattle.dump_tools.specs.Due.{Plan, Application, psql_due, head_of, database_name, report_of}
use Rattle.tool_laws.proofs.Dumped.{PlainLaw, version_text, dumped, script_is}
use Rattle.tool_laws.proofs.Saying.{RowlessLaw, rowless}
use Rattle.dump_tools.specs.Inputs.{where_read, HasTaken}
use Rattle.dump_tools.specs.Outputs.{World, world, Output, all_performed}
use Rattle.dump_tools.specs.Runs.{Run, run_of, IsApplied, MayCome, Begins, MayRun}
use Rattle.dump_tools.proofs.Taking.{performed_both}
use Rattle.schema_folders.specs.Folder.{schemas_alone, opening_of, folder_saved}
use Rattle.tool_words.specs.declared.outcome.Outcome.TheVariants.{Done}
use Rattle.tool_words.specs.declared.words.Teller.{Teller}
use Rattle.tool_words.specs.Messages.{report}
use Rattle.schema_folders.specs.Naming.{boot, named}
use Rattle.tool_laws.specs.RoundTrip.{without_rows, Remakes, public_alone, GoesBack, MakesSame, Restores}
use Rattle.schema_folders.specs.Run.{catalogue_after, refusals}
use Rattle.tool_laws.proofs.Written.{OpenLaw}
use Rattle.tool_laws.proofs.Planning.{planned}

-- the script of a dump of all of a folder of schemas makes them
abbrev pub ScriptLaw : Type 0
ScriptLaw = (source : Bytes) (tree : Tree) (rows : List SchemaRow) (head : Head) (entries : List Entry) → opening_of source tree ≡ Ok rows
    → toc (schemas_alone rows) whole ≡ Ok entries → IsUtf8 head.server → IsUtf8 head.dumper → Remakes (script head (without_rows entries) true) rows

-- what is known of the scripts of such dumps
pub record DumpLaws : Type 0 where
  pub script : ScriptLaw
  pub plain : PlainLaw
  pub rowless : RowlessLaw

remakes : DumpLaws → (source : Bytes) (moment : Moment) (first : Tree) (rows : List SchemaRow) (target : Bytes) (script : ScriptSource) (second : Tree) (input : Bytes) → (back : GoesBack source moment first rows target script second input) → Remakes back.text rows
remakes laws source moment first rows target script second input back =
    let cat = schemas_alone rows in
    let d = dumped back.asked moment first rows back.text (subst (λ (folder : Bytes). opening_of folder first ≡ Ok rows) (sym back.of_source) back.opened) back.all back.dumped in
    subst (λ (text : Bytes). Remakes text rows) (script_is laws.plain first cat moment back.text d (rowless laws.rowless rows d.entries d.are))
    (laws.script source first rows (head_of 4 (database_name cat) moment) d.entries back.opened d.are version_text version_text)

pub makes_same : DumpLaws → OpenLaw → (source : Bytes) (moment : Moment) (first : Tree) (rows : List SchemaRow) (target : Bytes) (script : ScriptSource) (second : Tree) (input : Bytes) → GoesBack source moment first rows target script second input → MakesSame (psql_due target script false second input) rows
makes_same laws opened source moment first rows target script second input back =
    let read = opened source first rows back.opened in
    let made = remakes laws source moment first rows target script second input back in
    record {
      plan = record { folder = target; statements = made.statements; rows = public_alone back.oid };
      is_due = planned target script second input back.text made.statements (public_alone back.oid) back.passed made.reads back.fresh;
      unrefused = made.unrefused;
      same = made.same read.public;
    }

-- ---- once it is done

-- what an applied script leaves
abbrev pub LeaveLaw : Type 0
LeaveLaw = (plan : Application) (run : Run) (before : World) (applied : IsApplied plan run)
    → all_performed run.outputs before ≡ world (option_map (folder_saved plan.folder applied.text) before.tree) before.left before.printed (option_map (λ told. told ++ report_of plan) before.told)

restores : LeaveLaw → (plan : Application) (rows : List SchemaRow) (reads : Option Bytes) (second : Tree) (run : Run) (before : World) (left : Option Bytes) → HasTaken reads before.left left → refusals boot plan.statements (named plan.rows) ≡ [] → catalogue_after boot plan.statements (named plan.rows) ≡ named rows
    → before.tree ≡ Some second → IsApplied plan run → (run.answer ≡ Done) × Restores plan.folder rows reads before (all_performed run.outputs (world before.tree left before.printed before.told))
restores leave plan rows reads second run before left taken unrefused same holds applied =
    let is = leave plan run (world before.tree left before.printed before.told) applied in (
      ap (λ (r : Run). r.answer) applied.is,
      record {
        tree = folder_saved plan.folder applied.text second;
        is = ap (λ (w : World). w.tree) is ∙ ap (λ (t : Option Tree). option_map (folder_saved plan.folder applied.text) t) holds;
        stands = record { found = applied.comes.rows; holds = applied.holds second; same = applied.comes.same ∙ same };
        left = subst (λ (l : Option Bytes). HasTaken reads before.left l) (sym (ap (λ (w : World). w.left) is)) taken;
        printed = ap (λ (w : World). w.printed) is;
        told = ap (λ (w : World). w.told) is ∙ ap (λ (text : List ℕ). option_map (λ told. told ++ text) before.told) (ap report unrefused);
      },
    )

-- what comes first takes what is read of standard input, and changes nothing else
begins_at : (reads : Option Bytes) (first : List Output) (before : World) → Begins reads first → (left : Option Bytes) × HasTaken reads before.left left × (all_performed first before ≡ world before.tree left before.printed before.told)
begins_at None first before e = (before.left, refl, ap (λ os. all_performed os before) e)
begins_at (Some input) first before (text, taken, e) = (option_map (λ left. drop (length text) left) before.left, (text, taken, refl), ap (λ os. all_performed os before) e)

behind_first : (target : Bytes) (rows : List SchemaRow) (reads : Option Bytes) (first : List Output) (later run : Run) (before : World) (left : Option Bytes) → all_performed first before ≡ world before.tree left before.printed before.told → run ≡ run_of (first ++ later.outputs) later.answer
    → (later.answer ≡ Done) × Restores target rows reads before (all_performed later.outputs (world before.tree left before.printed before.told))
    → (run.answer ≡ Done) × Restores target rows reads before (all_performed run.outputs before)
behind_first target rows reads first later run before left between is h = (
  ap (λ (r : Run). r.answer) is ∙ h.0,
  subst (λ (w : World). Restores target rows reads before w)
      (sym (ap (λ (r : Run). all_performed r.outputs before) is ∙ performed_both first later.outputs before ∙ ap (λ (w : World). all_performed later.outputs w) between))
      h.1,
)

pub stands_for : DumpLaws → OpenLaw → LeaveLaw → (source : Bytes) (moment : Moment) (first : Tree) (rows : List SchemaRow) (target : Bytes) (script : ScriptSource) (second : Tree) (input : Bytes) (teller : Teller) (run : Run) (before : World) → GoesBack source moment first rows target script second input
    → before.tree ≡ Some second → MayRun (where_read (is_input script) input) teller (psql_due target script false second input) run → (run.answer ≡ Done) × Restores target rows (where_read (is_input script) input) before (all_performed run.outputs before)
stands_for laws opened leave source moment first rows target script second input teller run before back holds may =
    let read = opened source first rows back.opened in
    let made = remakes laws source moment first rows target script second input back in
    let plan : Application = record { folder = target; statements = made.statements; rows = public_alone back.oid } in
    let between = begins_at (where_read (is_input script) input) may.first before may.begins in
    behind_first target rows (where_read (is_input script) input) may.first may.later run before between.0 between.2 may.is
    (restores leave plan rows (where_read (is_input script) input) second may.later before between.0 between.1 made.unrefused (made.same read.public) holds
    (subst (λ (d : Result Plan Outcome). MayCome teller d may.later) (planned target script second input back.text made.statements (public_alone back.oid) back.passed made.reads back.fresh) may.may))
