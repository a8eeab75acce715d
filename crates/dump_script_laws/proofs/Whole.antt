-- The laws of dumps put together for well-formed catalogues.
use Rattle.std.proofs.Common.{◌≡◌, Bool, List, Ok, ◌∙◌}
use Rattle.std.specs.Str.{IsUtf8}
use Rattle.cat_rows.specs.declared.catalogue.Catalogue.{Catalogue}
use Rattle.ddl_laws.specs.Spellings.{said}
use Rattle.ddl_laws.specs.located.Located.{Located}
use Rattle.ddl_laws.specs.Reading.{statements_of}
use Rattle.dep_sort.specs.Ordering.{Sorted, due}
use Rattle.dump_toc.specs.Toc.{toc_of, toc}
use Rattle.fmt_text.specs.Script.{script}
use Rattle.obj_graph.specs.declared.select.Select.{Select}
use Rattle.obj_graph.specs.Graphs.{graph_of}
use Rattle.script_laws.specs.Scripts.{AllEntries, script_statements}
use Rattle.stmt_laws.specs.Named.{HoldsCells}
use Rattle.toc_entry.specs.declared.head.Head.{Head}
use Rattle.toc_laws.specs.Dumps.{IsDump, HaveRows, entries_in}
use Rattle.toc_laws.proofs.Dumps.{Laws}
use Rattle.toc_laws.proofs.Statements.{LaidLaw}
use Rattle.well_formed.specs.Formed.{IsWellFormed}
use Rattle.dump_script_laws.specs.Statements.{Texts, HaveTexts, dump_statements}
use Rattle.dump_script_laws.proofs.Orders.{is_dump, toc_is}
use Rattle.dump_script_laws.proofs.Owners.{NameLaw}
use Rattle.dump_script_laws.proofs.Said.{Dump, says_all, texts_are_rows}

-- what a script of entries reads as
abbrev pub Reads : Head → AllEntries → Bool → Type 0
Reads head entries owners = (found : List Located) × (statements_of (script head entries owners) ≡ Ok found) × (said found ≡ script_statements owners entries)

abbrev pub DumpsRead : Type 0
DumpsRead = (cat : Catalogue) (select : Select) (order : Sorted) (head : Head) (entries : AllEntries) (owners : Bool) → IsDump cat order → entries_in entries ≡ toc_of cat select order → HaveRows entries → IsUtf8 head.server → IsUtf8 head.dumper → Reads head entries owners

abbrev pub FormedRead : Type 0
FormedRead = (cat : Catalogue) (select : Select) (head : Head) (entries : AllEntries) (owners : Bool) → HoldsCells cat → IsWellFormed cat → toc cat select ≡ Ok (entries_in entries) → HaveRows entries → IsUtf8 head.server → IsUtf8 head.dumper → Reads head entries owners

pub formed_read : DumpsRead → FormedRead
formed_read law cat select head entries owners holds formed is rows server dumper =
    let t = toc_is cat select (entries_in entries) is in
    law cat select t.order head entries owners (is_dump cat select t.order holds formed t.sorts) t.are rows server dumper

pub told_by_rows : FormedRead → LaidLaw → Laws → NameLaw → (cat : Catalogue) (select : Select) (head : Head) (entries : AllEntries) (owners : Bool) (texts : Texts) → HoldsCells cat → IsWellFormed cat → toc cat select ≡ Ok (entries_in entries) → HaveTexts texts entries → IsUtf8 head.server → IsUtf8 head.dumper
    → (order : Sorted) × (due (graph_of cat select) ≡ Ok order) × (found : List Located) × (statements_of (script head entries owners) ≡ Ok found) × (said found ≡ dump_statements owners cat select texts order)
told_by_rows law laid laws names cat select head entries owners texts holds formed is has server dumper =
    let t = toc_is cat select (entries_in entries) is in
    let dump = is_dump cat select t.order holds formed t.sorts in
    let g : Dump = record { cat = cat; select = select; order = t.order; texts = texts; owners = owners; holds = holds; laid = laid; laws = laws; names = names } in
    let read = law cat select head entries owners holds formed is (texts_are_rows texts entries has) server dumper in
    (t.order, t.sorts, read.0, read.1, read.2 ∙ says_all g entries dump.objects t.are has)
