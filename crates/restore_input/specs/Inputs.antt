-- What a restore reads of an archive before anything is restored: the entries that it takes, in the order of its list, each
-- with its rows; or the first fault of the steps. The archive is read first, then the list file, and then the data files of
-- a directory, in the order of the list.
use Rattle.std.specs.Prelude.{ℕ, List, [], ◌∷◌, map, Option, Result, Ok, Err, if◌then◌else◌}
use Rattle.dump_ports.specs.Tree.{Tree}
use Rattle.toc_parts.specs.Parts.{◌>>=◌}
use Rattle.toc_entry.specs.declared.entry.Entry.{Entry}
use Rattle.entry_choices.specs.declared.options.Options.{Options}
use Rattle.list_files.specs.Lists.{entries_at}
use Rattle.fmt_custom.specs.Customs.{Custom, custom_in}
use Rattle.fmt_directory.specs.declared.fault.DirFault.{DirFault}
use Rattle.fmt_directory.specs.Directories.{Directory, directory_in}
use Rattle.archive_scripts.specs.Scripts.{custom_rows}
use Rattle.archive_scripts.specs.Directories.{rows_within, toc_len}
use Rattle.restore_texts.specs.declared.asked.ArchiveFormat.{ArchiveFormat}
use Rattle.restore_texts.specs.declared.fault.TextLimit.TheVariants as limit
use Rattle.restore_texts.specs.declared.fault.TextFault.{TextFault}
use Rattle.restore_texts.specs.Texts.{file_due, places_due, in_archive, in_directory, is_directory}

-- entries in the order in which they are restored, and the rows of each, in the same order
pub record Input : Type 0 where
  pub entries : List Entry
  pub texts : List (Option (List ℕ))

abbrev pub input : List Entry → List (Option (List ℕ)) → Input
input entries texts = record { entries = entries; texts = texts }

-- ---- custom archives

-- the rows of each of these entries
abbrev pub custom_texts : Custom → List Entry → List (Option (List ℕ))
custom_texts custom entries = map (λ e. custom_rows custom e.dump_id) entries

-- the entries of a custom archive at these places, with their rows
abbrev pub custom_input : Custom → List ℕ → Input
custom_input custom places = input (entries_at custom.entries places) (custom_texts custom (entries_at custom.entries places))

abbrev pub behind_custom : Options → Option (List ℕ) → Tree → Custom → Result Input TextFault
behind_custom o list tree custom = places_due o custom.entries list tree >>= λ places. Ok (custom_input custom places)

-- what a restore reads of the custom archive that these bytes are
unfoldable pub custom_input_due : Options → Option (List ℕ) → Tree → List ℕ → Result Input TextFault
custom_input_due o list tree bytes = in_archive (custom_in bytes) >>= behind_custom o list tree

-- ---- directory archives

-- the rows of an entry, and those of the entries behind it
abbrev pub with_text : Option (List ℕ) → Result (List (Option (List ℕ))) DirFault → Result (List (Option (List ℕ))) DirFault
with_text text later = later >>= λ texts. Ok (text ∷ texts)

-- the rows of entries, whose files are read one after another; so many bytes of the archive were read before
unfoldable pub texts_due : Directory → Tree → ℕ → List Entry → Result (List (Option (List ℕ))) DirFault
texts_due d tree used [] = Ok []
texts_due d tree used (e ∷ entries) = rows_within d tree used e.dump_id >>= λ x. with_text x.0 (texts_due d tree x.1 entries)

-- the entries of a directory archive at these places, with their rows
abbrev pub directory_input : Directory → Tree → ℕ → List ℕ → Result Input DirFault
directory_input d tree used places =
    texts_due d tree used (entries_at d.entries places) >>= λ texts. Ok (input (entries_at d.entries places) texts)

abbrev pub behind_directory : Options → Option (List ℕ) → Tree → ℕ → Directory → Result Input TextFault
behind_directory o list tree used d = places_due o d.entries list tree >>= λ places. in_directory (directory_input d tree used places)

unfoldable pub directory_input_due : Options → Option (List ℕ) → Tree → List ℕ → Result Input TextFault
directory_input_due o list tree folder = in_directory (directory_in folder tree) >>= behind_directory o list tree (toc_len folder tree)

-- ---- the whole

unfoldable pub file_input_due : Options → Option (List ℕ) → Tree → List ℕ → Result Input TextFault
file_input_due o list tree path = file_due limit.Archive path tree >>= custom_input_due o list tree

-- What a restore reads of the archive at a path: the steps are those by which its list or its script is made, and so are
-- their faults.
abbrev pub input_due : Options → Option (List ℕ) → Option ArchiveFormat → Tree → List ℕ → Result Input TextFault
input_due o list f tree path = if is_directory f path tree then directory_input_due o list tree path else file_input_due o list tree path
