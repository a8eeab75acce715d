-- Archives in the directory format: the file `toc.dat`, and for each entry with rows the file of its dump id.
use Rattle.std.specs.Prelude.{ℕ, ◌-◌, Bool, true, ◌==◌, ◌||◌, nat_le, List, [], ◌++◌, length, Option, Some, None, Result, Ok, Err, if◌then◌else◌, codes, decimal}
use Rattle.dump_ports.specs.Tree.{Tree, text_at}
use Rattle.toc_parts.specs.Parts.{◌>>=◌, raised_at}
use Rattle.toc_entry.specs.declared.entry.Entry.{Entry}
use Rattle.toc_layout.specs.declared.fault.ArchiveFault.{ArchiveFault}
use Rattle.toc_layout.specs.declared.fault.ArchiveFault.TheVariants as faults
use Rattle.toc_layout.specs.Heads.{HeadFields, head_in}
use Rattle.toc_table.specs.Ids.{is_among}
use Rattle.toc_table.specs.Tables.{toc, placed_toc_fault, ids_with_rows}
use Rattle.fmt_directory.specs.declared.fault.DirFault.{DirFault}
use Rattle.fmt_directory.specs.declared.fault.DirFault.TheVariants.{Missing, TooLarge, Archive}

-- what a directory archive holds, and the path of its folder
pub record Directory : Type 0 where
  pub folder : List ℕ
  pub head : HeadFields
  pub entries : List Entry

-- nothing follows the last entry
abbrev pub ended_by : ℕ → Directory → ℕ → Result Directory ArchiveFault
ended_by len d left = if left == 0 then Ok d else Err (faults.Block (len - left))

abbrev pub entries_behind : ℕ → List ℕ → HeadFields → List ℕ → Result Directory ArchiveFault
entries_behind len folder head rest =
    raised_at (placed_toc_fault len) ((toc true).read rest) >>= λ t. ended_by len (record { folder = folder; head = head; entries = t.0 }) (length t.1)

-- `toc.dat` has the code of the tar format, or its own
abbrev pub is_directory : ℕ → Bool
is_directory format = format == 3 || format == 5

abbrev pub of_format : ℕ → List ℕ → HeadFields → List ℕ → Result Directory ArchiveFault
of_format len folder head rest =
    if is_directory head.format then entries_behind len folder head rest else Err (faults.WrongFormat head.format)

-- the archive of a folder whose `toc.dat` has these bytes
unfoldable pub toc_dat_in : List ℕ → List ℕ → Result Directory ArchiveFault
toc_dat_in folder bytes = raised_at faults.Head (head_in bytes) >>= λ h. of_format (length bytes) folder h.0 h.1

-- ---- files

abbrev pub toc_name : List ℕ → List ℕ
toc_name folder = folder ++ codes "/toc.dat"

abbrev pub rows_name : List ℕ → ℕ → List ℕ
rows_name folder id = folder ++ (codes "/" ++ (decimal id ++ codes ".dat"))

-- a file alone has at most 268,435,456 bytes
abbrev pub within_limit : List ℕ → Result (List ℕ) DirFault
within_limit text = if nat_le (length text) 268435456 then Ok text else Err (TooLarge 268435457)

abbrev pub text_by : List ℕ → Option (List ℕ) → Result (List ℕ) DirFault
text_by name None = Err (Missing name)
text_by name (Some text) = within_limit text

abbrev pub text_due : List ℕ → Tree → Result (List ℕ) DirFault
text_due name tree = text_by name (text_at tree name)

abbrev pub in_archive : {A : Type 0} → Result A ArchiveFault → Result A DirFault
in_archive (Ok x) = Ok x
in_archive (Err f) = Err (Archive f)

-- the archive in a folder of a tree
abbrev pub directory_in : List ℕ → Tree → Result Directory DirFault
directory_in folder tree = text_due (toc_name folder) tree >>= λ bytes. in_archive (toc_dat_in folder bytes)

abbrev pub found : {A : Type 0} → Result A DirFault → Result (Option A) DirFault
found (Ok x) = Ok (Some x)
found (Err f) = Err f

-- the rows of the entry with rows that has a dump id
abbrev pub rows_due : Directory → ℕ → Tree → Result (Option (List ℕ)) DirFault
rows_due d id tree = if is_among (ids_with_rows [] d.entries) id then found (text_due (rows_name d.folder id) tree) else Ok None
