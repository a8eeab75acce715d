-- The plain script of entries of a directory archive, whose rows are read file by file.
use Rattle.std.specs.Prelude.{ℕ, ◌+◌, Bool, nat_le, List, [], ◌∷◌, ◌++◌, length, slice_get, Option, Some, None, Result, Ok, Err, if◌then◌else◌}
use Rattle.std.specs.Option.{option_map_or}
use Rattle.dump_ports.specs.Tree.{Tree, bytes_at}
use Rattle.toc_parts.specs.Parts.{◌>>=◌}
use Rattle.toc_entry.specs.declared.entry.Entry.{Entry}
use Rattle.fmt_text.specs.Parts.{part}
use Rattle.fmt_text.specs.Script.{script_end}
use Rattle.fmt_directory.specs.declared.fault.DirFault.{DirFault}
use Rattle.fmt_directory.specs.declared.fault.DirFault.TheVariants.{TooLarge}
use Rattle.fmt_directory.specs.Directories.{Directory, toc_name, rows_due}
use Rattle.archive_scripts.specs.Scripts.{head_text}

-- `toc.dat` and the data files that are read have at most 268,435,456 bytes together
abbrev pub counted : ℕ → ℕ → Result ℕ DirFault
counted used more = if nat_le (used + more) 268435456 then Ok (used + more) else Err (TooLarge 268435457)

abbrev pub rows_len : Option (List ℕ) → ℕ
rows_len rows = option_map_or length rows 0

-- the rows of a dump id, and how many bytes were read with them
unfoldable pub rows_within : Directory → Tree → ℕ → ℕ → Result (Option (List ℕ) × ℕ) DirFault
rows_within d tree used id = rows_due d id tree >>= λ rows. counted used (rows_len rows) >>= λ n. Ok (rows, n)

-- the part of an entry, and how many bytes were read with its rows
abbrev pub part_due : Bool → Directory → Tree → ℕ → Option Entry → Result (List ℕ × ℕ) DirFault
part_due owners d tree used None = Ok ([], used)
part_due owners d tree used (Some e) = rows_within d tree used e.dump_id >>= λ x. Ok (part owners e x.0, x.1)

-- the parts of the entries at places behind a text, where so many bytes were read before
unfoldable pub parts_due : Bool → Directory → Tree → ℕ → List ℕ → List ℕ → Result (List ℕ) DirFault
parts_due owners d tree used text [] = Ok text
parts_due owners d tree used text (i ∷ places) =
    part_due owners d tree used (slice_get d.entries i) >>= λ p. parts_due owners d tree p.1 (text ++ p.0) places

-- The script of the entries at these places, or the first fault: each entry with rows has its file, which is read in turn.
-- So many bytes of the archive were read before.
unfoldable pub directory_script : Bool → Directory → Tree → ℕ → List ℕ → Result (List ℕ) DirFault
directory_script owners d tree used places = parts_due owners d tree used (head_text d.head) places >>= λ text. Ok (text ++ script_end)

-- how many bytes the table of contents of a folder has
abbrev pub toc_len : List ℕ → Tree → ℕ
toc_len folder tree = length (bytes_at tree (toc_name folder))
