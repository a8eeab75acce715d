-- Folders whose data files were read in step have one opening.
use Rattle.std.proofs.Common.{◌≡◌, ℕ, ◌+◌, ◌≤◌, Bool, true, false, cond, List, [], ◌∷◌, map, Option, Some, None, unwrap_or, Result, Ok, Err, IsSome, refl, sym, ap, subst, ◌∙◌}
use Rattle.std.specs.Prelude.{◌||◌}
use Rattle.std.specs.List.{All, AllByRecursion}
use Rattle.std.specs.Ordering.{nat_cmp, eq_by_cmp}
use Rattle.std.specs.FinMap.{get, from_entries}
use Rattle.std.proofs.lemmas.Bool.{le-leb}
use Rattle.std.proofs.lemmas.Cmp.{eq_by_cmp_equiv, nat_cmp_total}
use Rattle.std.proofs.lemmas.List.Elements.{All-from_recursion}
use Rattle.dump_ports.specs.Tree.{Tree, bytes_at}
use Rattle.cat_model.specs.Values.{Bytes}
use Rattle.cat_rows.specs.declared.catalogue.Catalogue.{Catalogue}
use Rattle.cat_names.specs.DataSets.{TextsByOid}
use Rattle.cat_names.specs.Lookups.{has_oid}
use Rattle.folder_io.specs.declared.file.ExportFile.TheVariants.{Marker, Table, Data}
use Rattle.folder_io.specs.declared.fault.FolderLimit.TheVariants.{DataFile, Folder}
use Rattle.folder_io.specs.declared.fault.FolderFault.{FolderFault}
use Rattle.folder_io.specs.declared.fault.FolderFault.TheVariants.{TooLarge}
use Rattle.folder_io.specs.Answers.{◌>>=◌}
use Rattle.folder_io.specs.Folders.{all_tables, bytes_of, catalogue_of, catalogue_rows, file_length, file_of, most_bytes}
use Rattle.folder_rows.specs.Reading.{data_of, rows_from, total_of}
use Rattle.folder_rows.specs.Holding.{HoldsRows}
use Rattle.folder_rows.proofs.Holds.{IsThere, read_holds, texts_found}
use Rattle.table_rows.specs.Tables.{table_oids}
use Rattle.well_formed.specs.Catalogues.{catalogue_fault}
use Rattle.same_texts.specs.Alike.{HasSame, HoldSame, IsData}
use Rattle.exports.specs.Exports.{Exported, texts_of}
use Rattle.exports.proofs.Steps.{tables_read, texts_read}
use Rattle.same_folders.specs.Streams.{LinesMeet, OpenAsOne, StandsFor}
use Rattle.same_folders.proofs.Alike.{export_alike, held_export, opened_one}

-- ---- oids

has_itself : (oid : ℕ) → eq_by_cmp nat_cmp oid oid ≡ true
has_itself oid = (eq_by_cmp_equiv nat_cmp_total).refl oid

or_right : (b x : Bool) → x ≡ true → (b || x) ≡ true
or_right true x is = refl
or_right false x is = is

further : (oid : ℕ) (oids qs : List ℕ) → AllByRecursion (λ q. has_oid oids q ≡ true) qs → AllByRecursion (λ q. has_oid (oid ∷ oids) q ≡ true) qs
further oid oids [] all = tt
further oid oids (q ∷ qs) all = (or_right (eq_by_cmp nat_cmp q oid) (has_oid oids q) all.0, further oid oids qs all.1)

all_had : (oids : List ℕ) → AllByRecursion (λ q. has_oid oids q ≡ true) oids
all_had [] = tt
all_had (oid ∷ oids) = (ap (λ (b : Bool). b || has_oid oids oid) (has_itself oid), further oid oids oids (all_had oids))

total_fits : (n : ℕ) → n ≤ most_bytes Folder → total_of n ≡ Ok tt
total_fits n fits = ap (λ (b : Bool). cond {A = Result (Unit {0}) FolderFault} b (Ok tt) (Err (TooLarge Folder (most_bytes Folder + 1)))) (le-leb n (most_bytes Folder) fits)

module _ (first second : Bytes) (tree : Tree) (cat : Catalogue) (used : ℕ) (small : used ≤ most_bytes Folder) (lines : LinesMeet first second tree cat used) where
  abbrev bytes : ℕ → Bytes
  bytes oid = bytes_at tree (file_of first (Data oid))

  abbrev rows : TextsByOid
  rows = from_entries {R = nat_cmp} (map (λ oid. (oid, bytes oid)) (table_oids cat))

  there : (oids : List ℕ) → AllByRecursion (λ oid. HasSame first second tree (Data oid)) oids → AllByRecursion (λ oid. file_length first tree (Data oid) ≤ most_bytes DataFile) oids → AllByRecursion (IsThere first tree) oids
  there [] same limited = tt
  there (oid ∷ oids) same limited = (record { there = subst (λ (o : Option Bytes). IsSome o) (sym same.0.one) refl; limited = limited.0 }, there oids same.1 limited.1)

  data_read : data_of first used cat tree ≡ Ok rows
  unfolding data_of rows_from
  data_read =
      ap (λ (r : Result (Unit {0}) FolderFault). r >>= λ done. rows_from first tree used (table_oids cat)) (total_fits used small)
      ∙ ap (λ r. r >>= λ texts. Ok (from_entries {R = nat_cmp} texts)) (texts_found first tree used (table_oids cat) (there (table_oids cat) lines.lines.same lines.lines.limited) lines.lines.fits)

  held : HoldsRows first used cat tree rows
  held = read_holds first tree used cat rows data_read

  found : (oid : ℕ) → has_oid (table_oids cat) oid ≡ true → get rows oid ≡ Some (bytes oid)
  found oid has = held.texts oid ∙ ap (λ (b : Bool). cond b (Some (bytes oid)) None) has

  all_stand : (qs : List ℕ) → AllByRecursion (λ q. has_oid (table_oids cat) q ≡ true) qs → AllByRecursion (StandsFor first tree rows) qs
  all_stand [] all = tt
  all_stand (q ∷ qs) all = (ap (λ (o : Option Bytes). unwrap_or o []) (found q all.0), all_stand qs all.1)

  stands : AllByRecursion (StandsFor first tree rows) (table_oids cat)
  stands = all_stand (table_oids cat) (all_had (table_oids cat))

  all_data : (qs : List ℕ) → AllByRecursion (λ q. has_oid (table_oids cat) q ≡ true) qs → AllByRecursion (λ oid. HasSame first second tree (Data oid)) qs → AllByRecursion (IsData second tree rows) qs
  all_data [] all same = tt
  all_data (q ∷ qs) all same = (
    record { text = same.0.text; held = found q all.0 ∙ ap (λ (o : Option Bytes). Some (unwrap_or o [])) same.0.one; there = same.0.other },
    all_data qs all.1 same.1,
  )

  pub hold_same : HasSame first second tree Marker × All (λ table. HasSame first second tree (Table table)) all_tables → HoldSame first second tree cat rows
  hold_same front = record {
    marker = front.0;
    tables = front.1;
    data_files = All-from_recursion (IsData second tree rows) (table_oids cat) (all_data (table_oids cat) (all_had (table_oids cat)) lines.lines.same);
  }

  abbrev export : Exported
  export = record { cat = cat; rows = rows }

  pub as_one : used ≡ bytes_of first tree → catalogue_of first tree ≡ Ok (catalogue_rows cat) → catalogue_fault cat ≡ None
      → catalogue_of second tree ≡ catalogue_of first tree → bytes_of second tree ≡ bytes_of first tree → ((n : ℕ) → data_of first n cat tree ≡ Ok rows → data_of second n cat tree ≡ Ok rows) → OpenAsOne first second tree
  as_one is tables formed catalogues many texts =
      let read : texts_of first tree ≡ Ok export =
      tables_read first tree cat tables ∙ texts_read first (bytes_of first tree) cat tree rows formed (ap (λ (n : ℕ). data_of first n cat tree) (sym is) ∙ data_read) in
      let hold = lines.hold rows stands in
      let meet = lines.meet rows stands in
      let one = held_export first tree export hold read in
      record {
        export = export;
        one = opened_one first tree export meet one;
        other = opened_one second tree export meet (export_alike first second tree export catalogues many texts one);
      }
