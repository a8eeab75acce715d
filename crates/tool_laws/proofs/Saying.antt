-- The script of a dump of all of a folder of schemas says its schemas.
use Rattle.std.proofs.Common.{◌≡◌, List, [], ◌∷◌, ◌++◌, map, None, Ok, refl, sym, ap, subst, ◌∙◌, ◌↔◌, true, false}
use Rattle.std.specs.List.{AllByRecursion, flat_map}
use Rattle.std.specs.List.Sorted.{IsPermutation}
use Rattle.std.specs.Str.{IsUtf8}
use Rattle.dump_ports.specs.Tree.{Tree}
use Rattle.cat_model.specs.Values.{Bytes}
use Rattle.cat_rows.specs.declared.catalogue.Catalogue.{Catalogue}
use Rattle.cat_rows.specs.declared.roles.AuthidRow.{AuthidRow}
use Rattle.cat_rows.specs.declared.roles.DatabaseRow.{DatabaseRow}
use Rattle.cat_rows.specs.declared.schemas.NamespaceRow.{NamespaceRow}
use Rattle.cat_names.specs.Lookups.{role_name}
use Rattle.ddl_scripts.specs.Spellings.{said}
use Rattle.ddl_scripts.specs.declared.located.Located.{Located}
use Rattle.ddl_scripts.specs.Reading.{statements_of}
use Rattle.dump_script_laws.specs.Statements.{Texts, HaveTexts}
use Rattle.dump_toc.specs.Toc.{toc}
use Rattle.fmt_text.specs.Script.{script}
use Rattle.obj_graph.specs.Closed.{whole}
use Rattle.schema_dumps.specs.Alone.{alone, AreOwned, schema_said}
use Rattle.script_laws.specs.Scripts.{AllEntries, session_statements}
use Rattle.stmt_laws.specs.Named.{HoldsCells}
use Rattle.toc_entry.specs.declared.entry.Entry.{Entry}
use Rattle.toc_entry.specs.declared.head.Head.{Head}
use Rattle.toc_laws.specs.Dumps.{entries_in}
use Rattle.well_formed.specs.Catalogues.{catalogue_fault}
use Rattle.well_formed.specs.Formed.{IsWellFormed}
use Rattle.schema_folders.specs.declared.schemas.SchemaRow.{SchemaRow}
use Rattle.schema_folders.specs.Folder.{boot_row, database_row, namespace_row, schemas_alone, opening_of}
use Rattle.schema_folders.specs.Naming.{boot}
use Rattle.tool_laws.specs.Opening.{AreSchemas, WereRead}
use Rattle.tool_laws.specs.RoundTrip.{without_rows, Remakes}
use Rattle.tool_laws.proofs.Dumped.{same_entries, no_text, have_none}
use Rattle.tool_laws.proofs.Held.{AllReadLaw, held}
use Rattle.tool_laws.proofs.RoundTrips.{SaysSchemas, remakes}

-- the schemas belong to the one role
owned : (rows : List SchemaRow) → AreOwned boot (boot_row ∷ []) (map namespace_row rows)
unfolding role_name
owned [] = tt
owned (row ∷ rows) = ((refl, refl), owned rows)

same_names : (rows : List SchemaRow) → map (λ (row : NamespaceRow). row.nspname) (map namespace_row rows) ≡ map (λ (row : SchemaRow). row.name) rows
same_names [] = refl
same_names (row ∷ rows) = ap (λ (l : List Bytes). row.name ∷ l) (same_names rows)

-- what the laws below say
abbrev pub OpenedLaw : Type 0
OpenedLaw = (folder : Bytes) (tree : Tree) (rows : List SchemaRow) → opening_of folder tree ≡ Ok rows → WereRead rows

abbrev pub CleanLaw : Type 0
CleanLaw = (rows : List SchemaRow) → AreSchemas rows → catalogue_fault (schemas_alone rows) ≡ None

abbrev pub FormedLaw : Type 0
FormedLaw = (cat : Catalogue) → (catalogue_fault cat ≡ None) ↔ IsWellFormed cat

abbrev pub SaidLaw : Type 0
SaidLaw = (roles : List AuthidRow) (databases : List DatabaseRow) (schemas : List NamespaceRow) (role : Bytes) (head : Head) (entries : AllEntries) (texts : Texts)
    → HoldsCells (alone roles databases schemas) → IsWellFormed (alone roles databases schemas) → AreOwned role roles schemas
    → toc (alone roles databases schemas) whole ≡ Ok (entries_in entries) → HaveTexts texts entries → IsUtf8 head.server → IsUtf8 head.dumper
    → (names : List Bytes) × IsPermutation (map (λ (row : NamespaceRow). row.nspname) schemas) names
    × (found : List Located) × (statements_of (script head entries true) ≡ Ok found)
    × (said found ≡ session_statements ++ flat_map (schema_said role) names)

abbrev pub RowlessLaw : Type 0
RowlessLaw = (roles : List AuthidRow) (databases : List DatabaseRow) (schemas : List NamespaceRow) (entries : List Entry)
    → toc (alone roles databases schemas) whole ≡ Ok entries → AllByRecursion (λ e. e.has_rows ≡ false) entries

-- no entry of a dump of schemas has rows
pub rowless : RowlessLaw → (rows : List SchemaRow) (entries : List Entry) → toc (schemas_alone rows) whole ≡ Ok entries → AllByRecursion (λ e. e.has_rows ≡ false) entries
rowless law rows entries e = law (boot_row ∷ []) (database_row ∷ []) (map namespace_row rows) entries e

pub script_remakes : OpenedLaw → CleanLaw → FormedLaw → AllReadLaw → SaidLaw → RowlessLaw → (source : Bytes) (tree : Tree) (rows : List SchemaRow) (head : Head) (entries : List Entry) → opening_of source tree ≡ Ok rows
    → toc (schemas_alone rows) whole ≡ Ok entries → IsUtf8 head.server → IsUtf8 head.dumper → Remakes (script head (without_rows entries) true) rows
script_remakes opened clean formed reads says none source tree rows head entries e is server dumper =
    let read = opened source tree rows e in
    let all = without_rows entries in
    let found = says (boot_row ∷ []) (database_row ∷ []) (map namespace_row rows) boot head all no_text
    (held reads source tree rows e) ((formed (schemas_alone rows)).0 (clean rows read.schemas)) (owned rows)
    (is ∙ ap Ok (sym (same_entries entries))) (have_none entries (rowless none rows entries is)) server dumper in
    remakes (script head all true) rows (record { names = read.named; distinct = read.schemas.names; users = read.schemas.users }) (record {
      names = found.0;
      kept = subst (λ (l : List Bytes). IsPermutation l found.0) (same_names rows) found.1;
      found = found.2;
      reads = found.3;
      says = found.4;
    })
