-- What pg_restore writes of a dump in the directory format.
use Rattle.std.proofs.Common.{◌≡◌, ℕ, ◌+◌, ◌<◌, ◌≤◌, ◌^◌, Bool, true, false, cond, List, [], ◌∷◌, All, map, length, decimal, codes, Option, Some, None, Result, Ok, Err, unwrap_or, refl, sym, ap, subst, ◌∙◌, arith}
use Rattle.std.specs.Prelude.{if◌then◌else◌}
use Rattle.std.specs.List.{AllByRecursion}
use Rattle.std.specs.Option.{is_some}
use Rattle.std.specs.Str.{is_utf8, chars}
use Rattle.std.proofs.Math.Utf8.{encode}
use Rattle.std.proofs.lemmas.Bool.{le-leb}
use Rattle.std.proofs.lemmas.Fmt.{IsAscii-decimal}
use Rattle.std.proofs.lemmas.List.{length-map}
use Rattle.std.proofs.lemmas.List.Elements.{All-head, All-tail}
use Rattle.std.proofs.lemmas.Str.{IsUtf8-nil, IsUtf8-append, IsUtf8-from_ascii, IsUtf8-from_is_utf8}
use Rattle.copy_text.specs.Texts.{IsText}
use Rattle.dump_ports.specs.Tree.{Tree, text_at}
use Rattle.toc_parts.specs.Parts.{◌>>=◌}
use Rattle.toc_entry.specs.declared.entry.Entry.{Entry}
use Rattle.toc_entry.specs.declared.entry.Extra.TheVariants.{File}
use Rattle.toc_entry.specs.declared.head.Head.{Head}
use Rattle.toc_layout.specs.Heads.{head_seen}
use Rattle.toc_layout.specs.Values.{IsEntry}
use Rattle.toc_layout.specs.Writable.{EntryCanBeWritten}
use Rattle.toc_table.specs.Tables.{ids_with_rows}
use Rattle.toc_table.specs.Writing.{HasOwnIds, EntryFits, TocFits}
use Rattle.entry_choices.specs.declared.options.Options.{Options}
use Rattle.entry_choices.specs.Choices.{wanted, wanted_places}
use Rattle.fmt_directory.specs.declared.fault.DirFault.TheVariants as dir
use Rattle.fmt_directory.specs.Directories.{Directory, toc_name, toc_dat_in, text_by, is_directory}
use Rattle.fmt_directory.specs.Directories as directories
use Rattle.fmt_directory.proofs.Written.{written_toc_dat}
use Rattle.archive_scripts.specs.Directories.{directory_script}
use Rattle.archive_entries.specs.Extras.{file_name, filed}
use Rattle.archive_entries.proofs.ExtraLemmas.{short_name}
use Rattle.dump_files.specs.declared.file.DataFile.{DataFile}
use Rattle.dump_files.specs.Outlets.{outside}
use Rattle.dump_plain.specs.Dumps.{plain_out}
use Rattle.dump_directory.specs.Files.{Written, saved}
use Rattle.dump_directory.specs.Directories.{Folder, toc_dat, directory_out}
use Rattle.dump_directory.proofs.SavingLemmas.{directory-is}
use Rattle.restore_texts.specs.declared.asked.Wish.TheVariants as wish
use Rattle.restore_texts.specs.declared.asked.ArchiveFormat.TheVariants as format
use Rattle.restore_texts.specs.declared.fault.TextFault.{TextFault}
use Rattle.restore_texts.specs.Texts.{in_directory, behind_directory, directory_due, file_text_due, archive_due}
use Rattle.archive_laws.specs.Restored.{bare, HasVersions, IsRestorable}
use Rattle.archive_laws.proofs.Fitting.{own_ids, value_with, can_with}
use Rattle.archive_laws.proofs.Scripts.{whole_text, leaves_none_alike}
use Rattle.directory_laws.specs.Stored.{AreStored, size_of}
use Rattle.directory_laws.proofs.Saved.{Distinct, stand}
use Rattle.directory_laws.proofs.Rows.{files_of, says_files, toc_is_apart, are_distinct, ids_filed, Marked, marked, rows_at, Holds, holds}
use Rattle.directory_laws.proofs.Parts.{scripted}

-- ---- `toc.dat`

pub filed_bare : (es : List Entry) → map bare (map filed es) ≡ map bare es
filed_bare [] = refl
filed_bare (e ∷ es) = ap (λ (l : List Entry). bare e ∷ l) (filed_bare es)

name_text : (has : Bool) (id : ℕ) → id < 2 ^ 32 → IsText (file_name has id)
unfolding is_utf8 chars encode
name_text false id low = IsUtf8-nil
name_text true id low = IsUtf8-append (decimal id) (codes ".dat") (IsUtf8-from_ascii (decimal id) (IsAscii-decimal id (omega arith))) (IsUtf8-from_is_utf8 (codes ".dat") refl)

filed_fit : (es : List Entry) → AllByRecursion IsEntry es → All EntryCanBeWritten es → AllByRecursion (EntryFits true) (map filed es)
filed_fit [] values can = tt
filed_fit (e ∷ es) values can = (
  record {
    value = value_with e (File (file_name e.has_rows e.dump_id)) values.0 (name_text e.has_rows e.dump_id values.0.dump_id);
    can = can_with e (File (file_name e.has_rows e.dump_id)) (All-head EntryCanBeWritten e es can) (short_name e.has_rows e.dump_id values.0.dump_id);
    kind = refl;
  },
  filed_fit es values.1 (All-tail EntryCanBeWritten e es can),
)

filed_own : (earlier : List ℕ) (es : List Entry) → HasOwnIds earlier es → HasOwnIds earlier (map filed es)
filed_own earlier [] own = tt
filed_own earlier (e ∷ es) own = (own.0, filed_own (e.dump_id ∷ earlier) es own.1)

module _ (tree : Tree) (folder : List ℕ) (head : Head) (entries : List Entry) (needed : List DataFile) (o : Options) (is : IsRestorable tree head entries needed o) where
  abbrev due : Folder
  due = directory_out tree folder head entries needed

  abbrev toc_text : List ℕ
  toc_text = toc_dat head (map filed entries)

  abbrev archive : Directory
  archive = record { folder = folder; head = head_seen head; entries = map filed entries }

  fits : TocFits true (map filed entries)
  fits = record {
    few = omega (arith, is.archive.few, length-map entries filed);
    each = filed_fit entries is.entry_types is.archive.each;
    own = filed_own [] entries (own_ids [] 0 entries (λ k low. refl) is.archive.rise);
  }

  pub whole : due.bad ≡ None
  whole = ap (λ (w : Folder). w.bad) (directory-is tree folder head entries needed) ∙ (says_files tree folder entries needed is.rows).0

  -- the files are these
  files_are : due.files ≡ record { name = toc_name folder; text = toc_text } ∷ files_of tree folder entries needed
  files_are =
      ap (λ (w : Folder). w.files) (directory-is tree folder head entries needed)
      ∙ ap (λ (l : List Written). record { name = toc_name folder; text = toc_text } ∷ l) (says_files tree folder entries needed is.rows).1

  pub all_stored : (before now : Tree) (written : Option (List ℕ)) → (saved due.files (outside (Some before) written)).tree ≡ Some now → AreStored now due.files
  all_stored before now written ends =
      let distinct : Distinct (record { name = toc_name folder; text = toc_text } ∷ files_of tree folder entries needed) = (toc_is_apart tree folder entries needed is.entry_types, are_distinct tree folder 0 entries needed is.archive.rise is.entry_types) in
      subst (AreStored now) (sym files_are)
      (stand (record { name = toc_name folder; text = toc_text } ∷ files_of tree folder entries needed) (outside (Some before) written) before now refl distinct
      (subst (λ (l : List Written). (saved l (outside (Some before) written)).tree ≡ Some now) files_are ends))

  module _ (now : Tree) (stored : AreStored now due.files) where
    there : AreStored now (record { name = toc_name folder; text = toc_text } ∷ files_of tree folder entries needed)
    there = subst (AreStored now) files_are stored

    pub is_folder : is_some (text_at now (toc_name folder)) ≡ true
    is_folder = ap is_some there.0

    module _ (few : size_of due.files ≤ 268435456) where
      low : length toc_text + size_of (files_of tree folder entries needed) ≤ 268435456
      low = subst (λ (l : List Written). size_of l ≤ 268435456) files_are few

      archive_read : is_directory head.format ≡ true → in_directory (directories.directory_in folder now) ≡ Ok archive
      archive_read format =
          ap (λ (t : Option (List ℕ)). in_directory (text_by (toc_name folder) t >>= λ bytes. directories.in_archive (toc_dat_in folder bytes))) there.0
          ∙ ap (λ (b : Bool). in_directory ((if b then Ok toc_text else Err (dir.TooLarge 268435457)) >>= λ bytes. directories.in_archive (toc_dat_in folder bytes))) (le-leb (length toc_text) 268435456 (omega (arith, low)))
          ∙ ap (λ r. in_directory (directories.in_archive r)) (written_toc_dat folder (head_seen head) (map filed entries) is.head_type is.archive.head format fits)

      abbrev ids : List ℕ
      ids = ids_with_rows [] (map filed entries)

      marks : Marked ids entries
      marks = subst (λ (l : List ℕ). Marked l entries) (sym (ids_filed [] entries)) (marked [] 0 entries is.archive.rise (λ k more. refl))

      read : Holds tree now folder ids entries needed
      read = holds tree now folder ids entries needed marks is.rows there.1 (omega (arith, low))

      script_is : (plain : Head) → HasVersions plain (head_seen head)
          → directory_script o.owners archive now (length toc_text) (wanted_places o (map filed entries)) ≡ Ok (plain_out tree plain o.owners entries needed).text
      script_is plain versions =
          scripted o.owners archive now (rows_at tree now folder ids) (length toc_text) (wanted o (map filed entries)) read.1 (omega (arith, low, read.2))
          ∙ ap (λ (t : List ℕ). Ok t)
          (whole_text tree (head_seen head) (map filed entries) (rows_at tree now folder ids) plain entries needed o (filed_bare entries) read.0 versions
          (leaves_none_alike o entries (map filed entries) (filed_bare entries) is.all))

      pub folder_restored : (plain : Head) → HasVersions plain (head_seen head) → is_directory head.format ≡ true → directory_due wish.Script o None now folder ≡ Ok (plain_out tree plain o.owners entries needed).text
      unfolding directory_due
      folder_restored plain versions format =
          ap (λ (r : Result Directory TextFault). r >>= behind_directory wish.Script o None now (length (unwrap_or (text_at now (toc_name folder)) []))) (archive_read format)
          ∙ ap (λ (t : Option (List ℕ)). in_directory (directory_script o.owners archive now (length (unwrap_or t [])) (wanted_places o (map filed entries)))) there.0
          ∙ ap in_directory (script_is plain versions)

pub script : (tree now : Tree) (folder : List ℕ) (head plain : Head) (entries : List Entry) (needed : List DataFile) (o : Options) → IsRestorable tree head entries needed o → HasVersions plain (head_seen head) → is_directory head.format ≡ true
    → AreStored now (directory_out tree folder head entries needed).files → size_of (directory_out tree folder head entries needed).files ≤ 268435456
    → directory_due wish.Script o None now folder ≡ Ok (plain_out tree plain o.owners entries needed).text
script tree now folder head plain entries needed o is versions format stored few = folder_restored tree folder head entries needed o is now stored few plain versions format

pub unasked : (tree before now : Tree) (written : Option (List ℕ)) (folder : List ℕ) (head plain : Head) (entries : List Entry) (needed : List DataFile) (o : Options) → IsRestorable tree head entries needed o → HasVersions plain (head_seen head) → is_directory head.format ≡ true
    → (saved (directory_out tree folder head entries needed).files (outside (Some before) written)).tree ≡ Some now → size_of (directory_out tree folder head entries needed).files ≤ 268435456
    → archive_due wish.Script o None None now folder ≡ Ok (plain_out tree plain o.owners entries needed).text
unasked tree before now written folder head plain entries needed o is versions format ends few =
    let stored = all_stored tree folder head entries needed o is before now written ends in
    ap (λ (b : Bool). cond b (directory_due wish.Script o None now folder) (file_text_due wish.Script o None now folder)) (is_folder tree folder head entries needed o is now stored)
    ∙ script tree now folder head plain entries needed o is versions format stored few

pub asked : (tree before now : Tree) (written : Option (List ℕ)) (folder : List ℕ) (head plain : Head) (entries : List Entry) (needed : List DataFile) (o : Options) → IsRestorable tree head entries needed o → HasVersions plain (head_seen head) → is_directory head.format ≡ true
    → (saved (directory_out tree folder head entries needed).files (outside (Some before) written)).tree ≡ Some now → size_of (directory_out tree folder head entries needed).files ≤ 268435456
    → archive_due wish.Script o None (Some format.Directory) now folder ≡ Ok (plain_out tree plain o.owners entries needed).text
asked tree before now written folder head plain entries needed o is versions format ends few =
    script tree now folder head plain entries needed o is versions format (all_stored tree folder head entries needed o is before now written ends) few
