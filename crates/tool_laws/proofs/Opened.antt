-- The schemas of a folder that was read as an opening.
use Rattle.std.proofs.Common.{◌≡◌, ℕ, suc, Bool, true, false, cond, not, ◌||◌, ◌==◌, List, [], ◌∷◌, ◌++◌, map, filter_map, Option, Some, None, Result, Ok, Err, option_and_then, refl, sym, ap, subst, ◌∙◌}
use Rattle.std.specs.List.{AllByRecursion, IsDistinct, slice_get}
use Rattle.copy_text.specs.Texts.{IsName}
use Rattle.dump_ports.specs.Tree.{Tree}
use Rattle.cat_rows.specs.declared.table.SysTable.{SysTable}
use Rattle.cat_rows.specs.declared.table.SysTable.TheVariants.{PgAuthid, PgAuthMembers, PgDatabase, PgNamespace}
use Rattle.cat_rows.specs.declared.fault.TableFault.{TableFault}
use Rattle.cat_rows.specs.declared.catalogue.Catalogue.{Catalogue}
use Rattle.cat_rows.specs.declared.cell.Cell.{Cell}
use Rattle.cat_rows.specs.declared.cell.Cell.TheVariants as cell
use Rattle.cat_rows.specs.declared.schemas.NamespaceRow.{NamespaceRow}
use Rattle.cat_rows.specs.Reading.{table_of}
use Rattle.cat_rows.specs.RowCells.{namespace_cells}
use Rattle.cat_rows.specs.Writing.{IsRowOf, AreRowsOf}
use Rattle.cat_model.specs.References.{is_system}
use Rattle.cat_model.specs.Values.{Bytes}
use Rattle.well_formed.specs.Catalogues.{catalogue_fault}
use Rattle.cat_names.specs.Lookups.{is_no_oid}
use Rattle.cat_book.specs.Meets.{Meets}
use Rattle.plain_tables.specs.Schemas.{schema_rules}
use Rattle.folder_io.specs.declared.fault.FolderFault.{FolderFault}
use Rattle.folder_io.specs.Answers.{each_of}
use Rattle.folder_io.specs.Answers as io
use Rattle.folder_io.specs.declared.fault.FolderLimit.TheVariants.{TableFile}
use Rattle.folder_io.specs.declared.file.ExportFile.TheVariants.{Table}
use Rattle.folder_io.specs.Folders.{TextOfTable, file_text, text_of, texts_of, rows_of, placed, tables_of, marker_of, bytes_of, catalogue_of}
use Rattle.folder_rows.specs.Reading.{data_of}
use Rattle.table_rows.specs.Values.{values_fault}
use Rattle.exports.specs.Cells.{Tables, schema_of, catalogue_with}
use Rattle.exports.specs.Exports.{Exported, told, well_formed, have_rows, export_with, export_of}
use Rattle.exports.proofs.Wholes.{whole}
use Rattle.schema_folders.specs.declared.schemas.SchemaRow.{SchemaRow}
use Rattle.tool_words.specs.declared.outcome.Outcome.{Outcome}
use Rattle.tool_words.specs.Answers.{◌>>=◌}
use Rattle.schema_folders.specs.Naming.{has_name, has_oid}
use Rattle.schema_folders.specs.Folder.{plain_row, joined, rows_after, has_public, if_public, schemas_of, is_bare, or_unbuilt, opening_in, opening_of}
use Rattle.schema_folders.proofs.Distinct.{distinct_names-push, distinct_oids-push}
use Rattle.tool_laws.specs.Opening.{AreSchemas, WereRead}

-- ---- rows of pg_namespace, one after another

-- what is known of a row of pg_namespace
pub record IsSound (row : NamespaceRow) : Type 0 where
  pub id : is_no_oid row.oid ≡ false
  pub user : is_system row.nspname ≡ false
  pub named : IsName row.nspname

-- what is known of the schemas so far
pub record AreSound (rows : List SchemaRow) : Type 0 where
  pub schemas : AreSchemas rows
  pub named : AllByRecursion (λ row. IsName row.name) rows

pushed : (P : SchemaRow → Type 0) (rows : List SchemaRow) (row : SchemaRow) → AllByRecursion P rows → P row → AllByRecursion P (rows ++ row ∷ [])
pushed P [] row h is = (is, tt)
pushed P (r ∷ rows) row h is = (h.0, pushed P rows row h.1 is)

-- a plain row is the schema of its own oid and name
own : (row : NamespaceRow) (schema : SchemaRow) → plain_row (namespace_cells row) ≡ Some schema → ◌≡◌ {A = SchemaRow} (record { oid = row.oid; name = row.nspname }) schema
own row schema e = by row.nspacl e
  where
    by_owner : (b : Bool) → cond {A = Option SchemaRow} b (Some (record { oid = row.oid; name = row.nspname })) None ≡ Some schema → ◌≡◌ {A = SchemaRow} (record { oid = row.oid; name = row.nspname }) schema
    by_owner true e = cc
    by_owner false e = absurd cc

    by : (acl : _) → plain_row (cell.Oid row.oid ∷ cell.Name row.nspname ∷ cell.Oid row.nspowner ∷ cell.Acl acl ∷ []) ≡ Some schema → ◌≡◌ {A = SchemaRow} (record { oid = row.oid; name = row.nspname }) schema
    by None e = by_owner (row.nspowner == 10) e
    by (Some acl) e = absurd cc

joined_sound : (before rows : List SchemaRow) (row : NamespaceRow) (found : Option SchemaRow) → joined before found ≡ Some rows → ((schema : SchemaRow) → found ≡ Some schema → ◌≡◌ {A = SchemaRow} (record { oid = row.oid; name = row.nspname }) schema) → IsSound row → AreSound before → AreSound rows
joined_sound before rows row None e same sound are = absurd cc
joined_sound before rows row (Some schema) e same sound are = by (has_oid schema.oid before) (has_name schema.name before) refl refl e
  where
    is : ◌≡◌ {A = SchemaRow} (record { oid = row.oid; name = row.nspname }) schema
    is = same schema refl

    by : (oid has : Bool) → has_oid schema.oid before ≡ oid → has_name schema.name before ≡ has → cond {A = Option (List SchemaRow)} (not (oid || has)) (Some (before ++ schema ∷ [])) None ≡ Some rows → AreSound rows
    by true has o h e = absurd cc
    by false true o h e = absurd cc
    by false false o h e =
        let more : before ++ schema ∷ [] ≡ rows = cc in
        subst AreSound more (record {
          schemas = record {
            ids = pushed _ before schema are.schemas.ids (subst (λ (s : SchemaRow). is_no_oid s.oid ≡ false) is sound.id);
            users = pushed _ before schema are.schemas.users (subst (λ (s : SchemaRow). is_system s.name ≡ false) is sound.user);
            oids = distinct_oids-push before schema are.schemas.oids o;
            names = distinct_names-push before schema are.schemas.names h;
          };
          named = pushed _ before schema are.named (subst (λ (s : SchemaRow). IsName s.name) is sound.named);
        })

rows_sound : (more : List NamespaceRow) (before rows : List SchemaRow) → AllByRecursion IsSound more → AreSound before → rows_after before (map namespace_cells more) ≡ Some rows → AreSound rows
rows_sound [] before rows sound are e = let same : before ≡ rows = cc in subst AreSound same are
rows_sound (row ∷ more) before rows sound are e =
    by (joined before (plain_row (namespace_cells row))) (λ all. rows_sound more all rows sound.1) (λ all j. joined_sound before all row (plain_row (namespace_cells row)) j (own row) sound.0 are) e
  where
    by : (found : Option (List SchemaRow)) → ((all : List SchemaRow) → AreSound all → rows_after all (map namespace_cells more) ≡ Some rows → AreSound rows) → ((all : List SchemaRow) → found ≡ Some all → AreSound all)
        → option_and_then (λ all. rows_after all (map namespace_cells more)) found ≡ Some rows → AreSound rows
    by None later here e = absurd cc
    by (Some all) later here e = later all (here all refl) e

public_read : (found : Option (List SchemaRow)) (rows : List SchemaRow) → option_and_then if_public found ≡ Some rows → ((rs : List SchemaRow) → found ≡ Some rs → AreSound rs) → WereRead rows
public_read None rows e sound = absurd cc
public_read (Some rs) rows e sound = by (has_public rs) refl e
  where
    by : (b : Bool) → has_public rs ≡ b → cond {A = Option (List SchemaRow)} b (Some rs) None ≡ Some rows → WereRead rows
    by false h e = absurd cc
    by true h e =
        let same : rs ≡ rows = cc in
        let are = sound rs refl in
        subst WereRead same (record { schemas = are.schemas; named = are.named; public = h })

none_yet : AreSound []
unfolding IsDistinct
none_yet = record { schemas = record { ids = tt; users = tt; oids = tt; names = tt }; named = tt }

schemas_read : (rows : List NamespaceRow) (schemas : List SchemaRow) → AllByRecursion IsSound rows → schemas_of (map namespace_cells rows) ≡ Some schemas → WereRead schemas
schemas_read rows schemas sound e = public_read (rows_after [] (map namespace_cells rows)) schemas e (λ rs. rows_sound rows [] rs sound none_yet)

-- ---- a well-formed table

left : (a b : Bool) → (a || b) ≡ false → a ≡ false
left true b e = absurd cc
left false b e = refl

-- what is known of a row that meets its conditions
abbrev IsFormed : NamespaceRow → Type 0
IsFormed row = (is_no_oid row.oid ≡ false) × (is_system row.nspname ≡ false)

each : {R : Type 0} {P : R → Type 0} (rows : List R) → ((i : ℕ) (row : R) → slice_get rows i ≡ Some row → P row) → AllByRecursion P rows
each [] h = tt
each (row ∷ rows) h = (h 0 row refl, each rows (λ i r e. h (suc i) r e))

formed_rows : (cat : Catalogue) → Meets schema_rules cat cat.pg_namespace → AllByRecursion IsFormed cat.pg_namespace
formed_rows cat meets = each cat.pg_namespace (λ i row there. (meets.objects i row there, left (is_system row.nspname) _ (meets.texts i row there)))

-- ---- names that were read

-- rows that were read can be written
abbrev pub ReadLaw : Type 0
ReadLaw = (text : List ℕ) (rows : List (List Cell)) → table_of PgNamespace text ≡ Ok rows → AreRowsOf PgNamespace rows

-- the rows of which a row of cells is a schema's
abbrev OfEach : (NamespaceRow → Type 0) → List (List Cell) → Type 0
OfEach P cells = AllByRecursion P (filter_map schema_of cells)

name_of : (cells : List Cell) (row : NamespaceRow) → schema_of cells ≡ Some row → IsRowOf PgNamespace cells → IsName row.nspname
name_of (cell.Oid oid ∷ cell.Name name ∷ cell.Oid owner ∷ cell.Acl acl ∷ []) row e h = let same : name ≡ row.nspname = cc in subst IsName same h.cells.1.0
name_of _ row e h = absurd cc

each_row : (P : NamespaceRow → Type 0) → ((cells : List Cell) (row : NamespaceRow) → schema_of cells ≡ Some row → IsRowOf PgNamespace cells → P row) → (cells : List (List Cell)) → AreRowsOf PgNamespace cells → OfEach P cells
each_row P law [] are = tt
each_row P law (c ∷ cells) are = by (schema_of c) refl (each_row P law cells are.1)
  where
    by : (found : Option NamespaceRow) → schema_of c ≡ found → OfEach P cells → AllByRecursion P (filter_map schema_of (c ∷ cells))
    by None e rest = rw e rest
    by (Some row) e rest = rw e (law c row e are.0, rest)

-- the fourth table, which is pg_namespace
abbrev fourth : Tables → List (List Cell)
fourth (a ∷ b ∷ c ∷ d ∷ more) = d
fourth _ = []

with_each : (P : NamespaceRow → Type 0) (tables : Tables) → OfEach P (fourth tables) → AllByRecursion P (catalogue_with tables).pg_namespace
unfolding catalogue_with
with_each P [] h = tt
with_each P (a ∷ []) h = tt
with_each P (a ∷ b ∷ []) h = tt
with_each P (a ∷ b ∷ c ∷ []) h = tt
with_each P (a ∷ b ∷ c ∷ d ∷ []) h = tt
with_each P (a ∷ b ∷ c ∷ d ∷ e ∷ []) h = tt
with_each P (a ∷ b ∷ c ∷ d ∷ e ∷ f ∷ []) h = tt
with_each P (a ∷ b ∷ c ∷ d ∷ e ∷ f ∷ g ∷ []) h = tt
with_each P (a ∷ b ∷ c ∷ d ∷ e ∷ f ∷ g ∷ i ∷ []) h = tt
with_each P (a ∷ b ∷ c ∷ d ∷ e ∷ f ∷ g ∷ i ∷ j ∷ []) h = tt
with_each P (a ∷ b ∷ c ∷ d ∷ e ∷ f ∷ g ∷ i ∷ j ∷ k ∷ []) h = tt
with_each P (a ∷ b ∷ c ∷ d ∷ e ∷ f ∷ g ∷ i ∷ j ∷ k ∷ l ∷ []) h = tt
with_each P (a ∷ b ∷ c ∷ d ∷ e ∷ f ∷ g ∷ i ∷ j ∷ k ∷ l ∷ m ∷ []) h = tt
with_each P (a ∷ b ∷ c ∷ d ∷ e ∷ f ∷ g ∷ i ∷ j ∷ k ∷ l ∷ m ∷ n ∷ []) h = tt
with_each P (a ∷ b ∷ c ∷ d ∷ e ∷ f ∷ g ∷ i ∷ j ∷ k ∷ l ∷ m ∷ n ∷ o ∷ []) h = tt
with_each P (a ∷ b ∷ c ∷ d ∷ e ∷ f ∷ g ∷ i ∷ j ∷ k ∷ l ∷ m ∷ n ∷ o ∷ p ∷ []) h = h
with_each P (a ∷ b ∷ c ∷ d ∷ e ∷ f ∷ g ∷ i ∷ j ∷ k ∷ l ∷ m ∷ n ∷ o ∷ p ∷ q ∷ more) h = tt

-- ---- steps that went well

pub bind_ok : {A B : Type 0} (r : Result A Outcome) (f : A → Result B Outcome) (y : B) → (r >>= f) ≡ Ok y → (x : A) × (r ≡ Ok x) × (f x ≡ Ok y)
bind_ok (Ok x) f y e = (x, refl, e)
bind_ok (Err o) f y e = absurd cc

told_ok : {A : Type 0} (r : Result A FolderFault) (x : A) → told r ≡ Ok x → r ≡ Ok x
told_ok (Ok y) x e = let same : y ≡ x = cc in ap Ok same
told_ok (Err fault) x e = absurd cc

folder_ok : {A B : Type 0} (r : Result A FolderFault) (f : A → Result B FolderFault) (y : B) → io.◌>>=◌ r f ≡ Ok y → (x : A) × (r ≡ Ok x) × (f x ≡ Ok y)
folder_ok (Ok x) f y e = (x, refl, e)
folder_ok (Err o) f y e = absurd cc

pub record Headed {A B : Type 0} (step : A → Result B FolderFault) (x : A) (xs : List A) (ys : List B) : Type 0 where
  pub first : B
  pub rest : List B
  pub is : first ∷ rest ≡ ys
  pub steps : step x ≡ Ok first
  pub others : each_of step xs ≡ Ok rest

headed : {A B : Type 0} (step : A → Result B FolderFault) (x : A) (xs : List A) (ys : List B) → each_of step (x ∷ xs) ≡ Ok ys → Headed step x xs ys
unfolding each_of
headed {A = A} {B = B} step x xs ys e =
    let a = folder_ok (step x) (λ y. io.◌>>=◌ (each_of step xs) (λ zs. Ok (y ∷ zs))) ys e in
    let b = folder_ok (each_of step xs) (λ zs. Ok (a.0 ∷ zs)) ys a.2 in
    record { first = a.0; rest = b.0; is = inner (a.0 ∷ b.0) b.2; steps = a.1; others = b.1 }
  where
    inner : (zs : List B) → ◌≡◌ {A = Result (List B) FolderFault} (Ok zs) (Ok ys) → zs ≡ ys
    inner zs e = cc

-- the text of pg_namespace among all texts
pub record FourTexts (folder : Bytes) (tree : Tree) (texts : List TextOfTable) : Type 0 where
  pub a : TextOfTable
  pub b : TextOfTable
  pub c : TextOfTable
  pub text : Bytes
  pub rest : List TextOfTable
  pub is : a ∷ b ∷ c ∷ record { table = PgNamespace; text = text } ∷ rest ≡ texts

own_table : (folder : Bytes) (tree : Tree) (found : TextOfTable) → text_of folder tree PgNamespace ≡ Ok found → (text : Bytes) × (◌≡◌ {A = TextOfTable} (record { table = PgNamespace; text = text }) found)
unfolding text_of
own_table folder tree found e =
    let t = folder_ok (file_text TableFile folder tree (Table PgNamespace)) (λ text. Ok (record { table = PgNamespace; text = text })) found e in
    (t.0, inner (record { table = PgNamespace; text = t.0 }) t.2)
  where
    inner : (x : TextOfTable) → ◌≡◌ {A = Result TextOfTable FolderFault} (Ok x) (Ok found) → x ≡ found
    inner x e = cc

four_texts : (folder : Bytes) (tree : Tree) (texts : List TextOfTable) → texts_of folder tree ≡ Ok texts → FourTexts folder tree texts
unfolding texts_of
four_texts folder tree texts e =
    let a = headed (text_of folder tree) PgAuthid _ texts e in
    let b = headed (text_of folder tree) PgAuthMembers _ a.rest a.others in
    let c = headed (text_of folder tree) PgDatabase _ b.rest b.others in
    let d = headed (text_of folder tree) PgNamespace _ c.rest c.others in
    let own = own_table folder tree d.first d.steps in
    record {
      a = a.first;
      b = b.first;
      c = c.first;
      text = own.0;
      rest = d.rest;
      is =
          ap (λ (t : TextOfTable). a.first ∷ b.first ∷ c.first ∷ t ∷ d.rest) own.1
          ∙ ap (λ (l : List TextOfTable). a.first ∷ b.first ∷ c.first ∷ l) d.is
          ∙ ap (λ (l : List TextOfTable). a.first ∷ b.first ∷ l) c.is
          ∙ ap (λ (l : List TextOfTable). a.first ∷ l) b.is
          ∙ a.is;
    }

placed_ok : (table : SysTable) (r : Result (List (List Cell)) TableFault) (rows : List (List Cell)) → placed table r ≡ Ok rows → r ≡ Ok rows
placed_ok table (Ok x) rows e = let same : x ≡ rows = cc in ap Ok same
placed_ok table (Err fault) rows e = absurd cc

-- the rows of pg_namespace were read of its text
fourth_read : (texts : List TextOfTable) (folder : Bytes) (tree : Tree) (four : FourTexts folder tree texts) (tables : Tables) → tables_of texts ≡ Ok tables → table_of PgNamespace four.text ≡ Ok (fourth tables)
unfolding tables_of
fourth_read texts folder tree four tables e =
    let start = subst (λ (l : List TextOfTable). each_of rows_of l ≡ Ok tables) (sym four.is) e in
    let a = headed rows_of four.a _ tables start in
    let b = headed rows_of four.b _ a.rest a.others in
    let c = headed rows_of four.c _ b.rest b.others in
    let d = headed rows_of (record { table = PgNamespace; text = four.text }) _ c.rest c.others in
    let is : a.first ∷ b.first ∷ c.first ∷ d.first ∷ d.rest ≡ tables =
    ap (λ (l : Tables). a.first ∷ b.first ∷ c.first ∷ l) d.is
    ∙ ap (λ (l : Tables). a.first ∷ b.first ∷ l) c.is
    ∙ ap (λ (l : Tables). a.first ∷ l) b.is
    ∙ a.is in
    subst (λ (ts : Tables). table_of PgNamespace four.text ≡ Ok (fourth ts)) is
    (placed_ok PgNamespace (table_of PgNamespace four.text) d.first d.steps)

pub catalogue_has : (P : NamespaceRow → Type 0) → ((cells : List Cell) (row : NamespaceRow) → schema_of cells ≡ Some row → IsRowOf PgNamespace cells → P row) → ReadLaw → (folder : Bytes) (tree : Tree) (tables : Tables) → catalogue_of folder tree ≡ Ok tables → AllByRecursion P (catalogue_with tables).pg_namespace
unfolding catalogue_of
catalogue_has P of law folder tree tables e =
    let marked = folder_ok (marker_of folder tree) (λ done. io.◌>>=◌ (texts_of folder tree) tables_of) tables e in
    let texts = folder_ok (texts_of folder tree) tables_of tables marked.2 in
    let four = four_texts folder tree texts.0 texts.1 in
    with_each P tables (each_row P of (fourth tables) (law four.text (fourth tables) (fourth_read texts.0 folder tree four tables texts.2)))

-- ---- an export that was read

-- its catalogue, and the tables that it was made of
pub record ReadExport (folder : Bytes) (tree : Tree) (export : Exported) : Type 0 where
  pub tables : Tables
  pub read : catalogue_of folder tree ≡ Ok tables
  pub is : catalogue_with tables ≡ export.cat
  pub formed : catalogue_fault export.cat ≡ None

same_cat : (folder : Bytes) (used : ℕ) (cat : Catalogue) (tree : Tree) (export : Exported) → export_with folder used cat tree ≡ Ok export → cat ≡ export.cat
unfolding export_with
same_cat folder used cat tree export e =
    let formed = bind_ok (well_formed (catalogue_fault cat)) _ export e in
    let rows = bind_ok (told (data_of folder used cat tree)) _ export formed.2 in
    let held = bind_ok (have_rows (values_fault cat rows.0)) (λ held. Ok (record { cat = cat; rows = rows.0 })) export rows.2 in
    inner (record { cat = cat; rows = rows.0 }) held.2
  where
    inner : (x : Exported) → ◌≡◌ {A = Result Exported Outcome} (Ok x) (Ok export) → x.cat ≡ export.cat
    inner x e = let same : x ≡ export = cc in ap (λ (y : Exported). y.cat) same

pub export_read : (folder : Bytes) (tree : Tree) (export : Exported) → export_of folder tree ≡ Ok export → ReadExport folder tree export
unfolding export_of
export_read folder tree export e =
    let tables = bind_ok (told (catalogue_of folder tree)) _ export e in
    let same = same_cat folder (bytes_of folder tree) (catalogue_with tables.0) tree export tables.2 in
    record {
      tables = tables.0;
      read = told_ok (catalogue_of folder tree) tables.0 tables.1;
      is = same;
      formed = subst (λ (cat : Catalogue). catalogue_fault cat ≡ None) same (whole folder (bytes_of folder tree) (catalogue_with tables.0) tree export tables.2).0;
    }

-- ---- the opening

-- the schemas of a catalogue without a fault meet their conditions
abbrev pub CleanLaw : Type 0
CleanLaw = (cat : Catalogue) → catalogue_fault cat ≡ None → Meets schema_rules cat cat.pg_namespace

both : (rows : List NamespaceRow) → AllByRecursion IsFormed rows → AllByRecursion (λ row. IsName row.nspname) rows → AllByRecursion IsSound rows
both [] f n = tt
both (row ∷ rows) f n = (record { id = f.0.0; user = f.0.1; named = n.0 }, both rows f.1 n.1)

unbuilt_ok : (bare : Bool) (found : Option (List SchemaRow)) (rows : List SchemaRow) → or_unbuilt bare found ≡ Ok rows → found ≡ Some rows
unbuilt_ok bare None rows e = absurd cc
unbuilt_ok true (Some rs) rows e = cc
unbuilt_ok false (Some rs) rows e = absurd cc

pub opening_read : CleanLaw → ReadLaw → (folder : Bytes) (tree : Tree) (rows : List SchemaRow) → opening_of folder tree ≡ Ok rows → WereRead rows
unfolding opening_of
opening_read clean law folder tree rows e =
    let export = bind_ok (export_of folder tree) (λ export. opening_in export.cat) rows e in
    let read = export_read folder tree export.0 export.1 in
    let names = subst (λ (cat : Catalogue). AllByRecursion (λ row. IsName row.nspname) cat.pg_namespace) read.is (catalogue_has (λ row. IsName row.nspname) name_of law folder tree read.tables read.read) in
    let formed = formed_rows export.0.cat (clean export.0.cat read.formed) in
    schemas_read export.0.cat.pg_namespace rows (both export.0.cat.pg_namespace formed names)
    (unbuilt_ok (is_bare export.0.cat) (schemas_of (map namespace_cells export.0.cat.pg_namespace)) rows export.2)
