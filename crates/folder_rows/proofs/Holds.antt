-- What a folder holds is what is due: each data file is found by itself, and their bytes add up.
use Rattle.std.proofs.Common.{◌≡◌, ℕ, ◌+◌, ◌≤◌, Bool, true, false, cond, List, [], ◌∷◌, length, map, Option, Some, None, unwrap_or, Result, Ok, Err, IsSome, refl, sym, ap, subst, ◌∙◌, arith}
use Rattle.std.specs.Prelude.{nat_le, ◌||◌}
use Rattle.std.specs.List.{AllByRecursion, sum_by}
use Rattle.std.specs.Ordering.{nat_cmp, eq_by_cmp}
use Rattle.std.specs.Cmp.{nat_cmp_total}
use Rattle.std.specs.FinMap.{get, find, from_entries, get-from_entries, same_map, nat_cmp-IsAntisymmetric}
use Rattle.std.proofs.lemmas.Bool.{true≢false, leb-true, le-leb}
use Rattle.std.proofs.lemmas.List.Elements.{All-from_recursion, recursion_from_All}
use Rattle.std.proofs.lemmas.List.Sums.{sum_by-cons}
use Rattle.dump_ports.specs.Tree.{Tree, text_at, bytes_at}
use Rattle.cat_rows.specs.declared.catalogue.Catalogue.{Catalogue}
use Rattle.cat_names.specs.DataSets.{TextsByOid}
use Rattle.cat_names.specs.Lookups.{has_oid}
use Rattle.folder_io.specs.declared.file.ExportFile.TheVariants.{Data}
use Rattle.folder_io.specs.declared.fault.FolderLimit.TheVariants.{DataFile, Folder}
use Rattle.folder_io.specs.declared.fault.FolderFault.{FolderFault}
use Rattle.folder_io.specs.declared.fault.FolderFault.TheVariants.{TooLarge}
use Rattle.folder_io.specs.Answers.{◌>>=◌}
use Rattle.folder_io.specs.Folders.{Bytes, most_bytes, within, file_of, file_text, file_length}
use Rattle.folder_io.proofs.Standing.{bind_ok, ok_same, within_ok}
use Rattle.table_rows.specs.Tables.{table_oids}
use Rattle.folder_rows.specs.Reading.{data_text, total_of, texts_from, rows_from, data_of}
use Rattle.folder_rows.specs.Holding.{HoldsRows}
use Rattle.folder_rows.proofs.Steps.{Entry, same_oid}

-- ---- totals

total_ok : (n : ℕ) (done : Unit {0}) → total_of n ≡ Ok done → n ≤ most_bytes Folder
total_ok n done is = by (nat_le n (most_bytes Folder)) refl is
  where
    by : (b : Bool) → nat_le n (most_bytes Folder) ≡ b → cond {A = Result (Unit {0}) FolderFault} b (Ok tt) (Err (TooLarge Folder (most_bytes Folder + 1))) ≡ Ok done → n ≤ most_bytes Folder
    by true le is = leb-true n (most_bytes Folder) le
    by false le is = absurd cc

total_fits : (n : ℕ) → n ≤ most_bytes Folder → total_of n ≡ Ok tt
total_fits n fits = ap (λ (b : Bool). cond {A = Result (Unit {0}) FolderFault} b (Ok tt) (Err (TooLarge Folder (most_bytes Folder + 1)))) (le-leb n (most_bytes Folder) fits)

module _ (folder : Bytes) (tree : Tree) where
  -- ---- one data file

  abbrev file_at : ℕ → Option Bytes
  file_at oid = text_at tree (file_of folder (Data oid))

  abbrev bytes : ℕ → Bytes
  bytes oid = bytes_at tree (file_of folder (Data oid))

  abbrev long : ℕ → ℕ
  long oid = file_length folder tree (Data oid)

  -- the file is there and within its limit
  pub record IsThere (oid : ℕ) : Type 0 where
    pub there : IsSome (file_at oid)
    pub limited : long oid ≤ most_bytes DataFile

  found : (oid : ℕ) (text : Bytes) → data_text folder tree oid ≡ Ok text → IsThere oid × (bytes oid ≡ text)
  unfolding file_text
  found oid text is =
      let held = within_ok DataFile (file_of folder (Data oid)) (file_at oid) text is in
      let same : bytes oid ≡ text = ap (λ (o : Option Bytes). unwrap_or o []) held.0 in (
        record {
          there = subst (λ (o : Option Bytes). IsSome o) (sym held.0) refl;
          limited = subst (λ (t : Bytes). length t ≤ most_bytes DataFile) (sym same) held.1;
        },
        same,
      )

  given : (oid : ℕ) → IsThere oid → data_text folder tree oid ≡ Ok (bytes oid)
  unfolding file_text
  given oid is = by (file_at oid) is.there is.limited
    where
      by : (o : Option Bytes) → IsSome o → length (unwrap_or o []) ≤ most_bytes DataFile → within DataFile (file_of folder (Data oid)) o ≡ Ok (unwrap_or o [])
      by None some limited = absurd (true≢false (sym some))
      by (Some text) some limited = ap (λ (b : Bool). cond {A = Result Bytes FolderFault} b (Ok text) (Err (TooLarge DataFile (most_bytes DataFile + 1)))) (le-leb (length text) (most_bytes DataFile) limited)

  -- ---- the data files of some tables

  abbrev entries_of : List ℕ → List Entry
  entries_of oids = map (λ oid. (oid, bytes oid)) oids

  pub texts_are : (used : ℕ) (oids : List ℕ) (entries : List Entry) → used ≤ most_bytes Folder → texts_from folder tree used oids ≡ Ok entries
      → AllByRecursion IsThere oids × (entries ≡ entries_of oids) × (used + sum_by long oids ≤ most_bytes Folder)
  unfolding texts_from
  texts_are used [] entries small is = let none : used + 0 ≤ most_bytes Folder = omega (arith, small) in (tt, sym (ok_same _ _ is), none)
  texts_are used (oid ∷ oids) entries small is =
      let one = bind_ok (data_text folder tree oid) (λ text. total_of (used + length text) >>= λ done. texts_from folder tree (used + length text) oids >>= λ texts. Ok ((oid, text) ∷ texts)) entries is in
      let total = bind_ok (total_of (used + length one.0)) (λ done. texts_from folder tree (used + length one.0) oids >>= λ texts. Ok ((oid, one.0) ∷ texts)) entries one.2 in
      let more = bind_ok (texts_from folder tree (used + length one.0) oids) (λ texts. Ok ((oid, one.0) ∷ texts)) entries total.2 in
      let here = found oid one.0 one.1 in
      let fits : used + length one.0 ≤ most_bytes Folder = total_ok (used + length one.0) total.0 total.1 in
      let later = texts_are (used + length one.0) oids more.0 fits more.1 in
      let sum : sum_by long (oid ∷ oids) ≡ long oid + sum_by long oids = sum_by-cons long oid oids in
      let same : long oid ≡ length one.0 = ap (length {A = ℕ}) here.1 in
      let left : used + length one.0 + sum_by long oids ≤ most_bytes Folder = later.2 in (
        (here.0, later.0),
        sym (ok_same _ _ more.2) ∙ ap (λ (t : Bytes). (oid, t) ∷ more.0) (sym here.1) ∙ ap (λ (l : List Entry). (oid, bytes oid) ∷ l) later.1,
        omega (arith, sum, same, left),
      )

  pub texts_found : (used : ℕ) (oids : List ℕ) → AllByRecursion IsThere oids → used + sum_by long oids ≤ most_bytes Folder → texts_from folder tree used oids ≡ Ok (entries_of oids)
  unfolding texts_from
  texts_found used [] all fits = refl
  texts_found used (oid ∷ oids) all fits =
      let sum : sum_by long (oid ∷ oids) ≡ long oid + sum_by long oids = sum_by-cons long oid oids in
      let left : used + long oid + sum_by long oids ≤ most_bytes Folder = omega (arith, sum, fits) in
      let here : used + long oid ≤ most_bytes Folder = omega (arith, left) in
      ap (λ r. r >>= λ text. total_of (used + length text) >>= λ done. texts_from folder tree (used + length text) oids >>= λ texts. Ok ((oid, text) ∷ texts)) (given oid all.0)
      ∙ ap (λ r. r >>= λ done. texts_from folder tree (used + long oid) oids >>= λ texts. Ok ((oid, bytes oid) ∷ texts)) (total_fits (used + long oid) here)
      ∙ ap (λ r. r >>= λ texts. Ok ((oid, bytes oid) ∷ texts)) (texts_found (used + long oid) oids all.1 left)

  -- ---- the texts by their oids

  find_entry : (oids : List ℕ) (q : ℕ) → find nat_cmp q (entries_of oids) ≡ cond (has_oid oids q) (Some (bytes q)) None
  find_entry [] q = refl
  find_entry (oid ∷ oids) q = ap (λ (o : Option Bytes). cond (eq_by_cmp nat_cmp q oid) (Some (bytes oid)) o) (find_entry oids q) ∙ by (eq_by_cmp nat_cmp q oid) refl
    where
      by : (b : Bool) → eq_by_cmp nat_cmp q oid ≡ b → cond b (Some (bytes oid)) (cond (has_oid oids q) (Some (bytes q)) None) ≡ cond (b || has_oid oids q) (Some (bytes q)) None
      by true is = ap (λ (o : ℕ). Some (bytes o)) (sym (same_oid q oid is))
      by false is = refl

  get_text : (oids : List ℕ) (q : ℕ) → get (from_entries {R = nat_cmp} (entries_of oids)) q ≡ cond (has_oid oids q) (Some (bytes q)) None
  get_text oids q = get-from_entries nat_cmp_total (entries_of oids) q ∙ find_entry oids q

  -- ---- the folder

  all_there : (oids : List ℕ) → AllByRecursion IsThere oids → AllByRecursion (λ oid. IsSome (file_at oid)) oids × AllByRecursion (λ oid. long oid ≤ most_bytes DataFile) oids
  all_there [] all = (tt, tt)
  all_there (oid ∷ oids) all = let rest = all_there oids all.1 in ((all.0.there, rest.0), (all.0.limited, rest.1))

  both_there : (oids : List ℕ) → AllByRecursion (λ oid. IsSome (file_at oid)) oids → AllByRecursion (λ oid. long oid ≤ most_bytes DataFile) oids → AllByRecursion IsThere oids
  both_there [] there limited = tt
  both_there (oid ∷ oids) there limited = (record { there = there.0; limited = limited.0 }, both_there oids there.1 limited.1)

  pub read_holds : (used : ℕ) (cat : Catalogue) (rows : TextsByOid) → data_of folder used cat tree ≡ Ok rows → HoldsRows folder used cat tree rows
  unfolding data_of rows_from
  read_holds used cat rows is =
      let oids = table_oids cat in
      let total = bind_ok (total_of used) (λ done. texts_from folder tree used oids >>= λ texts. Ok (from_entries texts)) rows is in
      let texts = bind_ok (texts_from folder tree used oids) (λ texts. Ok (from_entries texts)) rows total.2 in
      let are = texts_are used oids texts.0 (total_ok used total.0 total.1) texts.1 in
      let there = all_there oids are.0 in
      let same : from_entries {R = nat_cmp} (entries_of oids) ≡ rows = ap (λ (l : List Entry). from_entries {R = nat_cmp} l) (sym are.1) ∙ ok_same _ _ texts.2 in
      record {
        there = All-from_recursion (λ oid. IsSome (file_at oid)) oids there.0;
        limited = All-from_recursion (λ oid. long oid ≤ most_bytes DataFile) oids there.1;
        fits = are.2;
        texts = λ q. ap (λ (m : TextsByOid). get m q) (sym same) ∙ get_text oids q;
      }

  pub holds_read : (used : ℕ) (cat : Catalogue) (rows : TextsByOid) → HoldsRows folder used cat tree rows → data_of folder used cat tree ≡ Ok rows
  unfolding data_of rows_from
  holds_read used cat rows holds =
      let oids = table_oids cat in
      let there = both_there oids (recursion_from_All (λ oid. IsSome (file_at oid)) oids holds.there) (recursion_from_All (λ oid. long oid ≤ most_bytes DataFile) oids holds.limited) in
      let fits : used + sum_by long oids ≤ most_bytes Folder = holds.fits in
      let first : used ≤ most_bytes Folder = omega (arith, fits) in
      let same : from_entries {R = nat_cmp} (entries_of oids) ≡ rows = same_map nat_cmp_total nat_cmp-IsAntisymmetric _ _ (λ q. get_text oids q ∙ sym (holds.texts q)) in
      ap (λ r. r >>= λ done. texts_from folder tree used oids >>= λ texts. Ok (from_entries texts)) (total_fits used first)
      ∙ ap (λ r. r >>= λ texts. Ok (from_entries texts)) (texts_found used oids there fits)
      ∙ ap Ok same
