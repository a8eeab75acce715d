-- What is known of the texts that were made, once they were read in memory.
use Rattle.std.proofs.Common.{◌≡◌, ◌⊎◌, inl, inr, ℕ, List, [], map, Result, Ok, Err, refl, ap, sym, subst, ◌∙◌}
use Rattle.std.specs.List.{AllByRecursion}
use Rattle.std.specs.FinMap.{empty}
use Rattle.dump_ports.specs.Tree.{Tree}
use Rattle.cat_model.specs.Values.{Bytes}
use Rattle.cat_rows.specs.declared.catalogue.Catalogue.{Catalogue}
use Rattle.cat_names.specs.DataSets.{TextsByOid}
use Rattle.table_rows.specs.Tables.{table_oids}
use Rattle.folder_io.specs.Folders.{TextOfTable, all_tables}
use Rattle.exports.specs.Exports.{Exported, export_of}
use Rattle.tool_words.specs.declared.outcome.Outcome.{Outcome}
use Rattle.tool_words.specs.declared.outcome.Outcome.TheVariants.{Done, Usage, ReadFault, WriteFault, Missing, BadExport, BadScript, OutOfProfile, TooLarge, Differs, ScriptStopped, BadArchive, BadList, BadDefn, WithErrors, RestoreStopped, Loop, NoMatch, Memory}
use Rattle.tool_words.specs.Answers.{IsDue}
use Rattle.saved_folders.specs.Folders.{Texts, DataText, data_text, texts_with, folder_saved, IsTextOf, AreTexts}
use Rattle.saved_folders.specs.Exports.{rows_kept, ReadsAs, IsReordered, IsCallFree, HasNoTexts}
use Rattle.saved_folders.proofs.Kept.{texts_kept}

-- the two laws
abbrev pub ReadAlike : Type 0
ReadAlike = (cat : Catalogue) (rows : TextsByOid) (texts others : Texts) → AreTexts cat rows texts → AreTexts cat rows others
    → (folder other : Bytes) (tree before : Tree) → export_of folder (folder_saved folder texts tree) ≡ export_of other (folder_saved other others before)

abbrev pub KeepRows : Type 0
KeepRows = (cat : Catalogue) (rows : TextsByOid) (texts : Texts) (folder : Bytes) (tree : Tree) (export : Exported) → AreTexts cat rows texts
    → export_of folder (folder_saved folder texts tree) ≡ Ok export → IsReordered cat rows export

-- the texts in memory
pub record IsMade (cat : Catalogue) (rows : TextsByOid) (oids : List ℕ) (tables : List TextOfTable) : Type 0 where
  pub oids_are : oids ≡ table_oids cat
  pub tables_are : map (λ text. text.table) tables ≡ all_tables
  pub written : AllByRecursion (IsTextOf cat) tables

module _ (alike : ReadAlike) (cat : Catalogue) (rows : TextsByOid) (oids : List ℕ) (tables : List TextOfTable) (made : IsMade cat rows oids tables) where
  are : AreTexts cat rows (texts_with rows oids tables)
  are = record { put = ap (map (data_text rows)) made.oids_are; tables = made.tables_are; written = made.written }

  -- what is due of the folder in memory is due of each
  pub refuses_due : (outcome : Outcome) → IsDue outcome (export_of [] (folder_saved [] (texts_with rows oids tables) empty))
      → (texts : Texts) → AreTexts cat rows texts → (folder : Bytes) (tree : Tree) → IsDue outcome (export_of folder (folder_saved folder texts tree))
  refuses_due outcome due texts others folder tree = subst (λ (of : Result Exported Outcome). IsDue outcome of) (alike cat rows (texts_with rows oids tables) texts are others [] folder empty tree) due

  pub due_of : (export : Exported) → export_of [] (folder_saved [] (texts_with rows oids tables) empty) ≡ Ok export
      → (texts : Texts) → AreTexts cat rows texts → (folder : Bytes) (tree : Tree) → export_of folder (folder_saved folder texts tree) ≡ Ok export
  due_of export read texts others folder tree = alike cat rows texts (texts_with rows oids tables) others are folder [] tree empty ∙ read

  -- a refusal for which there are no texts
  pub has_no_texts : (outcome : Outcome) → IsDue outcome (export_of [] (folder_saved [] (texts_with rows oids tables) empty)) → IsCallFree outcome → HasNoTexts cat rows outcome
  has_no_texts Done due free = inr (texts_with rows oids tables, are, due)
  has_no_texts (Usage word kind) due free = inr (texts_with rows oids tables, are, due)
  has_no_texts ReadFault due free = elim free [ ]
  has_no_texts WriteFault due free = elim free [ ]
  has_no_texts (Missing name) due free = inr (texts_with rows oids tables, are, due)
  has_no_texts (BadExport file line kind) due free = inr (texts_with rows oids tables, are, due)
  has_no_texts (BadScript fault) due free = inr (texts_with rows oids tables, are, due)
  has_no_texts (OutOfProfile what) due free = inr (texts_with rows oids tables, are, due)
  has_no_texts (TooLarge limit most) due free = inr (texts_with rows oids tables, are, due)
  has_no_texts (Differs key) due free = inr (texts_with rows oids tables, are, due)
  has_no_texts (ScriptStopped stop) due free = inr (texts_with rows oids tables, are, due)
  has_no_texts (BadArchive fault) due free = inr (texts_with rows oids tables, are, due)
  has_no_texts (BadList fault) due free = inr (texts_with rows oids tables, are, due)
  has_no_texts (BadDefn entry fault) due free = inr (texts_with rows oids tables, are, due)
  has_no_texts (WithErrors errors) due free = inr (texts_with rows oids tables, are, due)
  has_no_texts (RestoreStopped stop) due free = inr (texts_with rows oids tables, are, due)
  has_no_texts (Loop path) due free = inr (texts_with rows oids tables, are, due)
  has_no_texts (NoMatch pattern) due free = inr (texts_with rows oids tables, are, due)
  has_no_texts Memory due free = inl refl

module _ (alike : ReadAlike) (keep : KeepRows) (cat : Catalogue) (rows : TextsByOid) (oids : List ℕ) (tables : List TextOfTable) (made : IsMade cat rows oids tables) (export : Exported) (read : export_of [] (folder_saved [] (texts_with rows oids tables) empty) ≡ Ok export) where
  pub is_kept : IsReordered cat rows export
  is_kept = keep cat rows (texts_with rows oids tables) [] empty export (are alike cat rows oids tables made) read

  -- the rows that were read give the same texts
  same_texts : texts_with export.rows oids tables ≡ texts_with rows oids tables
  same_texts =
      ap (λ (d : List DataText). record { rows = d; tables = tables })
      (ap (λ (its : TextsByOid). map (data_text its) oids) is_kept.texts
      ∙ ap (map (data_text (rows_kept cat rows))) made.oids_are
      ∙ texts_kept cat rows
      ∙ ap (map (data_text rows)) (sym made.oids_are))

  pub reads_as : ReadsAs (texts_with export.rows oids tables) export
  reads_as folder tree =
      ap (λ (texts : Texts). export_of folder (folder_saved folder texts tree)) same_texts
      ∙ due_of alike cat rows oids tables made export read (texts_with rows oids tables) (are alike cat rows oids tables made) folder tree

  pub are_texts : AreTexts cat rows (texts_with export.rows oids tables)
  are_texts = subst (AreTexts cat rows) (sym same_texts) (are alike cat rows oids tables made)
