-- Folders that hold the same texts have one opening.
use Rattle.std.specs.Prelude.{IfOk}
use Rattle.std.proofs.Common.{◌≡◌, ℕ, List, Option, Some, None, Result, Ok, Err, refl, sym, ap, ◌∙◌}
use Rattle.dump_ports.specs.Tree.{Tree}
use Rattle.cat_model.specs.Values.{Bytes}
use Rattle.cat_rows.specs.declared.cell.Cell.{Cell}
use Rattle.cat_rows.specs.declared.catalogue.Catalogue.{Catalogue}
use Rattle.folder_io.specs.declared.fault.FolderFault.{FolderFault}
use Rattle.folder_io.specs.Folders.{bytes_of, catalogue_of}
use Rattle.folder_rows.specs.Reading.{data_of}
use Rattle.table_rows.specs.declared.fault.ValuesFault.{ValuesFault}
use Rattle.table_rows.specs.Values.{values_fault}
use Rattle.cat_load.specs.declared.meeting.LoadFault.{LoadFault}
use Rattle.cat_load.specs.Loads.{rows_fault}
use Rattle.tool_words.specs.declared.outcome.Outcome.{Outcome}
use Rattle.tool_words.specs.Answers.{◌>>=◌}
use Rattle.exports.specs.Cells.{catalogue_with}
use Rattle.exports.specs.Exports.{Exported, told, have_rows, texts_of, export_with, export_of}
use Rattle.exports.proofs.Steps.{export_read, texts_held}
use Rattle.exports.proofs.Wholes.{whole}
use Rattle.openings.specs.Openings.{meet, opened, opened_folder}

-- an opening is the export
same_export : (export one : Exported) (found : Option LoadFault) → (meet found >>= λ done. Ok export) ≡ Ok one → export ≡ one
same_export export one None e = cc
same_export export one (Some fault) e = absurd cc

opening_parts : (read : Result Exported Outcome) (one : Exported) → (read >>= opened) ≡ Ok one → (read ≡ Ok one) × (opened one ≡ Ok one)
opening_parts (Err outcome) one e = absurd cc
opening_parts (Ok export) one e =
    let same = same_export export one (rows_fault export.cat export.rows) e in
    (ap Ok same, ap opened (sym same) ∙ e)

catalogue_parts : (read : Result (List (List (List Cell))) FolderFault) (next : Catalogue → Result Exported Outcome) (one : Exported) → (told read >>= λ tables. next (catalogue_with tables)) ≡ Ok one
    → (tables : List (List (List Cell))) × (read ≡ Ok tables) × (next (catalogue_with tables) ≡ Ok one)
catalogue_parts (Err fault) next one e = absurd cc
catalogue_parts (Ok tables) next one e = (tables, refl, e)

same_cat : (a b : Exported) → ◌≡◌ {A = Result Exported Outcome} (Ok a) (Ok b) → a.cat ≡ b.cat
same_cat a b e = cc

module _ (first second : Bytes) (tree : Tree) (one : Exported)
    (catalogue : catalogue_of second tree ≡ catalogue_of first tree)
    (bytes : bytes_of second tree ≡ bytes_of first tree)
    (rows : (used : ℕ) → data_of first used one.cat tree ≡ Ok one.rows → data_of second used one.cat tree ≡ Ok one.rows) where
  pub export_alike : export_of first tree ≡ Ok one → export_of second tree ≡ Ok one
  unfolding export_of
  export_alike read =
      let used = bytes_of first tree in
      let parts = catalogue_parts (catalogue_of first tree) (λ cat. export_with first used cat tree) one read in
      let cat = catalogue_with parts.0 in
      let found = whole first used cat tree one parts.2 in
      let made : ◌≡◌ {A = Result Exported Outcome} (Ok (record { cat = cat; rows = one.rows })) (Ok one) = sym (export_read first used cat tree one.rows found.0 found.1 found.2) ∙ parts.2 in
      let same : cat ≡ one.cat = same_cat (record { cat = cat; rows = one.rows }) one made in
      let held = rows used (ap (λ (c : Catalogue). data_of first used c tree) (sym same) ∙ found.1) in
      ap (λ (r : Result (List (List (List Cell))) FolderFault). told r >>= λ tables. export_with second (bytes_of second tree) (catalogue_with tables) tree) (catalogue ∙ parts.1)
      ∙ ap (λ (n : ℕ). export_with second n cat tree) bytes
      ∙ export_read second used cat tree one.rows found.0 (ap (λ (c : Catalogue). data_of second used c tree) same ∙ held) found.2
      ∙ made

  pub opened_alike : opened_folder first tree ≡ Ok one → opened_folder second tree ≡ Ok one
  unfolding opened_folder
  opened_alike read =
      let parts = opening_parts (export_of first tree) one read in
      ap (λ (r : Result Exported Outcome). r >>= opened) (export_alike parts.0) ∙ parts.1

-- an export whose rows meet their tables is an opening
pub opened_one : (folder : Bytes) (tree : Tree) (export : Exported) → rows_fault export.cat export.rows ≡ None → export_of folder tree ≡ Ok export → opened_folder folder tree ≡ Ok export
unfolding opened_folder
opened_one folder tree export none read =
    ap (λ (r : Result Exported Outcome). r >>= opened) read ∙ ap (λ (found : Option LoadFault). meet found >>= λ done. Ok export) none

-- texts that hold rows are an export
pub held_export : (folder : Bytes) (tree : Tree) (texts : Exported) → values_fault texts.cat texts.rows ≡ None → texts_of folder tree ≡ Ok texts → export_of folder tree ≡ Ok texts
held_export folder tree texts none read =
    texts_held folder tree texts read ∙ ap (λ (found : Option ValuesFault). have_rows found >>= λ done. Ok texts) none

pub both_ok : {X E : Type 0} (r : Result X E) (P Q R : X → Type 0) → ((x : X) → P x → Q x → R x) → IfOk r P → IfOk r Q → IfOk r R
both_ok (Ok x) P Q R f p q = f x p q
both_ok (Err e) P Q R f p q = tt
