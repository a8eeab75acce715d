-- What pg_dump writes of a folder of schemas.
use Rattle.std.proofs.Common.{◌≡◌, ℕ, Bool, true, false, List, [], ◌∷◌, Option, None, Some, Result, Ok, Err, not, refl, sym, ap, ◌∙◌}
use Rattle.std.specs.List.{AllByRecursion}
use Rattle.std.specs.Str.{IsUtf8, is_utf8, chars}
use Rattle.std.proofs.Math.Utf8.{encode}
use Rattle.std.proofs.lemmas.Bool.{false≢true}
use Rattle.std.proofs.lemmas.Str.{IsUtf8-from_is_utf8}
use Rattle.dump_ports.specs.Tree.{Tree}
use Rattle.dump_ports.specs.declared.moment.Moment.{Moment}
use Rattle.cat_model.specs.Values.{Bytes}
use Rattle.command_line.specs.declared.values.Format.{Format}
use Rattle.cat_rows.specs.declared.catalogue.Catalogue.{Catalogue}
use Rattle.cat_names.specs.DataSets.{TextsByOid}
use Rattle.well_formed.specs.Catalogues.{catalogue_fault}
use Rattle.table_rows.specs.Values.{values_fault}
use Rattle.folder_io.specs.Folders.{bytes_of, catalogue_of}
use Rattle.folder_rows.specs.Reading.{data_of}
use Rattle.toc_entry.specs.declared.entry.Entry.{Entry}
use Rattle.toc_entry.specs.declared.head.Head.{Head}
use Rattle.dump_files.specs.declared.file.DataFile.{DataFile}
use Rattle.dump_files.specs.declared.stop.DumpStop.{DumpStop}
use Rattle.dump_files.specs.Needed.{unready}
use Rattle.dump_plain.specs.Dumps.{plain_out}
use Rattle.dump_outputs.specs.declared.form.DumpForm.TheVariants.{Script}
use Rattle.dump_outputs.specs.Forms.{Putting, one_piece, dump_put}
use Rattle.dump_outputs.specs.Pieces.{Piece}
use Rattle.dump_plans.specs.Outcomes.{toc_told, ready_told}
use Rattle.dump_plans.specs.Plans.{Dumping, dumping_with, data_files, entries_due, dumping_of}
use Rattle.dump_toc.specs.Toc.{Refusal, toc}
use Rattle.dump_script_laws.specs.Statements.{HaveTexts}
use Rattle.output_laws.specs.Pairs as pairs
use Rattle.fmt_text.specs.Script.{script}
use Rattle.obj_graph.specs.declared.select.Select.{Select}
use Rattle.obj_graph.specs.Closed.{whole}
use Rattle.script_laws.specs.Scripts.{AllEntries}
use Rattle.toc_laws.specs.Dumps.{entries_in}
use Rattle.tool_words.specs.declared.outcome.Outcome.{Outcome}
use Rattle.tool_words.specs.declared.words.DumpAsked.{DumpAsked}
use Rattle.tool_words.specs.Answers.{◌>>=◌}
use Rattle.exports.specs.Cells.{Tables, catalogue_with}
use Rattle.exports.specs.Exports.{Exported, told, well_formed, have_rows, export_with, export_of, formed_with, formed_of}
use Rattle.schema_folders.specs.declared.schemas.SchemaRow.{SchemaRow}
use Rattle.schema_folders.specs.Folder.{schemas_alone, opening_in, opening_of}
use Rattle.dump_tools.specs.Due.{Plan, Puts, version, head_of, database_name, form_of, put_of, selected_due, formed_due, chosen_due, dump_due}
use Rattle.tool_laws.specs.RoundTrip.{without_rows, AsksForAll}
use Rattle.tool_laws.proofs.Bare.{opening_is}
use Rattle.tool_laws.proofs.Opened.{bind_ok}

-- ---- entries without rows

abbrev AreRowless : List Entry → Type 0
AreRowless entries = AllByRecursion (λ e. e.has_rows ≡ false) entries

pub same_entries : (entries : List Entry) → entries_in (without_rows entries) ≡ entries
same_entries [] = refl
same_entries (e ∷ entries) = ap (λ (l : List Entry). e ∷ l) (same_entries entries)

abbrev pub no_text : ℕ → Bytes
no_text table = []

-- no rows are wanted of any
pub have_none : (entries : List Entry) → AreRowless entries → HaveTexts no_text (without_rows entries)
have_none [] none = tt
have_none (e ∷ entries) none = (λ is. absurd (false≢true (sym none.0 ∙ is)), have_none entries none.1)

-- nor read for any
none_read : (tree : Tree) (entries : List Entry) (needed : List DataFile) → AreRowless entries → pairs.HaveTexts tree entries needed (without_rows entries)
none_read tree [] needed none = tt
none_read tree (e ∷ entries) needed none = (refl, by e.has_rows none.0 (none_read tree entries needed none.1))
  where
    by : (b : Bool) → b ≡ false → pairs.HaveTexts tree entries needed (without_rows entries) → pairs.HasText tree e b needed None (λ others. pairs.HaveTexts tree entries others (without_rows entries))
    by true is later = absurd cc
    by false is later = (refl, later)

-- a plain dump is a script
abbrev pub PlainLaw : Type 0
PlainLaw = (tree : Tree) (head : Head) (owners : Bool) (entries : List Entry) (needed : List DataFile) (stored : AllEntries) → pairs.HaveTexts tree entries needed stored
    → ((plain_out tree head owners entries needed).bad ≡ None) × ((plain_out tree head owners entries needed).text ≡ script head stored owners)

-- the version is text
pub version_text : IsUtf8 version
unfolding is_utf8 chars encode
version_text = IsUtf8-from_is_utf8 version refl

-- ---- what is due of the folder

-- the catalogue of an export is the one that pg_dump reads
export_formed : (folder : Bytes) (tree : Tree) (export : Exported) → export_of folder tree ≡ Ok export → formed_of folder tree ≡ Ok export.cat
unfolding export_of export_with formed_of
export_formed folder tree export e =
    let tables = bind_ok (told (catalogue_of folder tree)) _ export e in
    let formed = bind_ok (well_formed (catalogue_fault (catalogue_with tables.0))) _ export tables.2 in
    let rows = bind_ok (told (data_of folder (bytes_of folder tree) (catalogue_with tables.0) tree)) _ export formed.2 in
    let held = bind_ok (have_rows (values_fault (catalogue_with tables.0) rows.0)) _ export rows.2 in
    ap (λ (r : Result Tables Outcome). r >>= λ t. formed_with (catalogue_with t)) tables.1
    ∙ ap (λ (r : Result (Unit {0}) Outcome). r >>= λ done. Ok (catalogue_with tables.0)) formed.1
    ∙ ap (λ (x : Exported). Ok x.cat) (same (catalogue_with tables.0) rows.0 held.2)
  where
    same : (cat : Catalogue) (texts : TextsByOid) → ◌≡◌ {A = Result Exported Outcome} (Ok (record { cat = cat; rows = texts })) (Ok export) → record { cat = cat; rows = texts } ≡ export
    same cat texts h = cc

-- what is due of a folder of schemas is due of their catalogue
of_schemas : (asked : DumpAsked) (moment : Moment) (tree : Tree) (rows : List SchemaRow) → opening_of asked.folder tree ≡ Ok rows → dump_due asked moment tree ≡ chosen_due asked moment tree (schemas_alone rows)
unfolding dump_due opening_of
of_schemas asked moment tree rows opened =
    let export = bind_ok (export_of asked.folder tree) (λ x. opening_in x.cat) rows opened in
    ap (λ (r : Result Catalogue Outcome). r >>= chosen_due asked moment tree) (export_formed asked.folder tree export.0 export.1)
    ∙ ap (chosen_due asked moment tree) (opening_is export.0.cat rows export.2)

-- ---- what is due of a catalogue

-- the text that is put out of a dump
abbrev front_of : List Piece → Bytes
front_of [] = []
front_of (piece ∷ pieces) = piece.text

-- a script of all of a catalogue
pub record Dumped (tree : Tree) (cat : Catalogue) (moment : Moment) (text : Bytes) : Type 0 where
  pub entries : List Entry
  pub files : List DataFile
  pub are : toc cat whole ≡ Ok entries
  pub is : (plain_out tree (head_of 4 (database_name cat) moment) true entries files).text ≡ text

entries_are : (folder : Bytes) (cat : Catalogue) (tree : Tree) (dump : Dumping) → dumping_of folder whole cat tree ≡ Ok dump → toc cat whole ≡ Ok dump.entries
unfolding dumping_of
entries_are folder cat tree dump e =
    let found = bind_ok (toc_told (toc cat whole)) (entries_due folder cat tree) dump e in
    told_toc (toc cat whole) found.0 found.1 ∙ ap (λ (d : Dumping). Ok d.entries) (ready (dumping_with found.0 (data_files folder cat found.0)) (unready tree (data_files folder cat found.0)) found.2)
  where
    told_toc : (r : Result (List Entry) Refusal) (entries : List Entry) → toc_told r ≡ Ok entries → r ≡ Ok entries
    told_toc (Ok all) entries h = let same : all ≡ entries = cc in ap Ok same
    told_toc (Err refusal) entries h = absurd cc

    ready : (made : Dumping) (stop : Option DumpStop) → ready_told made stop ≡ Ok dump → made ≡ dump
    ready made None h = cc
    ready made (Some stop) h = absurd cc

selected : (folder : Bytes) (target : Option Bytes) (cat : Catalogue) (moment : Moment) (tree : Tree) (text : Bytes) → selected_due folder whole (Script target true) (head_of 4 (database_name cat) moment) cat tree ≡ Ok (Puts (one_piece target text None)) → Dumped tree cat moment text
unfolding put_of dump_put
selected folder target cat moment tree text e =
    let head = head_of 4 (database_name cat) moment in
    let found = bind_ok (dumping_of folder whole cat tree) (λ dump. Ok (Puts (put_of tree (Script target true) head dump))) (Puts (one_piece target text None)) e in
    let dump = found.0 in
    record {
      entries = dump.entries;
      files = dump.files;
      are = entries_are folder cat tree dump found.1;
      is = ap (λ (p : Putting). front_of p.pieces) (inner (put_of tree (Script target true) head dump) (one_piece target text None) found.2);
    }
  where
    inner : (a b : Putting) → ◌≡◌ {A = Result Plan Outcome} (Ok (Puts a)) (Ok (Puts b)) → a ≡ b
    inner a b h = cc

-- what all is asked for as a script comes to
formed : (asked : DumpAsked) (moment : Moment) (tree : Tree) (cat : Catalogue) → AsksForAll asked → chosen_due asked moment tree cat ≡ selected_due asked.folder whole (Script asked.target true) (head_of 4 (database_name cat) moment) cat tree
formed asked moment tree cat all =
    ap (λ (f : Format). formed_due asked (form_of f asked.target (not asked.choice.no_owner)) moment cat tree) all.plain
    ∙ ap (λ (s : Select). selected_due asked.folder s (Script asked.target (not asked.choice.no_owner)) (head_of 4 (database_name cat) moment) cat tree) all.whole
    ∙ ap (λ (owners : Bool). selected_due asked.folder whole (Script asked.target owners) (head_of 4 (database_name cat) moment) cat tree) (ap (λ (s : Select). s.owners) all.whole)

-- so the text that is put out is a script of all of the folder
pub dumped : (asked : DumpAsked) (moment : Moment) (tree : Tree) (rows : List SchemaRow) (text : Bytes) → opening_of asked.folder tree ≡ Ok rows → AsksForAll asked → dump_due asked moment tree ≡ Ok (Puts (one_piece asked.target text None)) → Dumped tree (schemas_alone rows) moment text
dumped asked moment tree rows text opened all e =
    selected asked.folder asked.target (schemas_alone rows) moment tree text (sym (of_schemas asked moment tree rows opened ∙ formed asked moment tree (schemas_alone rows) all) ∙ e)

-- and it is that of its entries, none of which has rows
pub script_is : PlainLaw → (tree : Tree) (cat : Catalogue) (moment : Moment) (text : Bytes) (d : Dumped tree cat moment text) → AreRowless d.entries → script (head_of 4 (database_name cat) moment) (without_rows d.entries) true ≡ text
script_is plain tree cat moment text d none = sym (plain tree (head_of 4 (database_name cat) moment) true d.entries d.files (without_rows d.entries) (none_read tree d.entries d.files none)).1 ∙ d.is
