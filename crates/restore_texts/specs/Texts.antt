-- What pg_restore writes of an archive without restoring it, or the first fault of the steps: the archive is read, then the
-- list file, and for a script the data files of a directory, in the order of the list.
use Rattle.std.specs.Prelude.{ℕ, Bool, true, false, nat_le, List, length, Option, Some, None, Result, Ok, Err, if◌then◌else◌}
use Rattle.std.specs.Option.{is_some}
use Rattle.dump_ports.specs.Tree.{Tree, text_at}
use Rattle.toc_parts.specs.Parts.{◌>>=◌}
use Rattle.toc_entry.specs.declared.entry.Entry.{Entry}
use Rattle.toc_layout.specs.declared.fault.ArchiveFault.{ArchiveFault}
use Rattle.entry_choices.specs.declared.options.Options.{Options}
use Rattle.list_files.specs.declared.fault.ListFault.{ListFault}
use Rattle.list_files.specs.Edits.{chosen}
use Rattle.list_files.specs.Lists.{list_text, entries_at}
use Rattle.fmt_custom.specs.Customs.{Custom, custom_in}
use Rattle.fmt_directory.specs.declared.fault.DirFault.{DirFault}
use Rattle.fmt_directory.specs.Directories.{Directory, directory_in, toc_name}
use Rattle.archive_scripts.specs.Scripts.{custom_script}
use Rattle.archive_scripts.specs.Directories.{directory_script, toc_len}
use Rattle.restore_texts.specs.declared.asked.Wish.{Wish}
use Rattle.restore_texts.specs.declared.asked.Wish.TheVariants as wish
use Rattle.restore_texts.specs.declared.asked.ArchiveFormat.{ArchiveFormat}
use Rattle.restore_texts.specs.declared.asked.ArchiveFormat.TheVariants as format
use Rattle.restore_texts.specs.declared.fault.TextLimit.{TextLimit}
use Rattle.restore_texts.specs.declared.fault.TextLimit.TheVariants as limit
use Rattle.restore_texts.specs.declared.fault.TextFault.{TextFault}
use Rattle.restore_texts.specs.declared.fault.TextFault.TheVariants as faults
use Rattle.restore_texts.specs.Faults.{of_directory}

-- ---- files

-- an archive in one file and a list file have at most 268,435,456 bytes each
abbrev pub within : TextLimit → List ℕ → Result (List ℕ) TextFault
within what text = if nat_le (length text) 268435456 then Ok text else Err (faults.TooLarge what 268435457)

abbrev pub file_by : TextLimit → List ℕ → Option (List ℕ) → Result (List ℕ) TextFault
file_by what name None = Err (faults.Missing name)
file_by what name (Some text) = within what text

abbrev pub file_due : TextLimit → List ℕ → Tree → Result (List ℕ) TextFault
file_due what name tree = file_by what name (text_at tree name)

abbrev pub found : Result (List ℕ) TextFault → Result (Option (List ℕ)) TextFault
found (Ok text) = Ok (Some text)
found (Err fault) = Err fault

abbrev pub list_due : Option (List ℕ) → Tree → Result (Option (List ℕ)) TextFault
list_due None tree = Ok None
list_due (Some name) tree = found (file_due limit.List name tree)

-- ---- which entries

abbrev pub in_list : {A : Type 0} → Result A ListFault → Result A TextFault
in_list (Ok x) = Ok x
in_list (Err f) = Err (faults.List f)

abbrev pub places_due : Options → List Entry → Option (List ℕ) → Tree → Result (List ℕ) TextFault
places_due o entries list tree = list_due list tree >>= λ text. in_list (chosen o entries text)

-- ---- custom archives

abbrev pub in_archive : {A : Type 0} → Result A ArchiveFault → Result A TextFault
in_archive (Ok x) = Ok x
in_archive (Err f) = Err (faults.Archive f)

abbrev pub custom_text : Wish → Options → Custom → List ℕ → List ℕ
custom_text wish.List o custom places = list_text custom.head (entries_at custom.entries places)
custom_text wish.Script o custom places = custom_script o.owners custom places

abbrev pub behind_custom : Wish → Options → Option (List ℕ) → Tree → Custom → Result (List ℕ) TextFault
behind_custom w o list tree custom = places_due o custom.entries list tree >>= λ places. Ok (custom_text w o custom places)

unfoldable pub custom_due : Wish → Options → Option (List ℕ) → Tree → List ℕ → Result (List ℕ) TextFault
custom_due w o list tree bytes = in_archive (custom_in bytes) >>= behind_custom w o list tree

-- ---- directory archives

abbrev pub in_directory : {A : Type 0} → Result A DirFault → Result A TextFault
in_directory (Ok x) = Ok x
in_directory (Err f) = Err (of_directory f)

abbrev pub directory_text : Wish → Options → Directory → Tree → ℕ → List ℕ → Result (List ℕ) TextFault
directory_text wish.List o d tree used places = Ok (list_text d.head (entries_at d.entries places))
directory_text wish.Script o d tree used places = in_directory (directory_script o.owners d tree used places)

abbrev pub behind_directory : Wish → Options → Option (List ℕ) → Tree → ℕ → Directory → Result (List ℕ) TextFault
behind_directory w o list tree used d = places_due o d.entries list tree >>= λ places. directory_text w o d tree used places

unfoldable pub directory_due : Wish → Options → Option (List ℕ) → Tree → List ℕ → Result (List ℕ) TextFault
directory_due w o list tree folder = in_directory (directory_in folder tree) >>= behind_directory w o list tree (toc_len folder tree)

-- ---- the whole

-- a folder with a file `toc.dat` is a directory archive, where no format is asked for
abbrev pub is_directory : Option ArchiveFormat → List ℕ → Tree → Bool
is_directory None path tree = is_some (text_at tree (toc_name path))
is_directory (Some format.Custom) path tree = false
is_directory (Some format.Directory) path tree = true

unfoldable pub file_text_due : Wish → Options → Option (List ℕ) → Tree → List ℕ → Result (List ℕ) TextFault
file_text_due w o list tree path = file_due limit.Archive path tree >>= λ bytes. custom_due w o list tree bytes

abbrev pub archive_due : Wish → Options → Option (List ℕ) → Option ArchiveFormat → Tree → List ℕ → Result (List ℕ) TextFault
archive_due w o list f tree path = if is_directory f path tree then directory_due w o list tree path else file_text_due w o list tree path
