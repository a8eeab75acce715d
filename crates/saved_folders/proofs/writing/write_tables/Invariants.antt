use Rattle.std.proofs.Common.{◌≡◌, option_map}
use Rattle.saved_folders.specs.Files.{saved}
use Rattle.saved_folders.specs.Folders.{table_written}
use Rattle.saved_folders.proofs.Saved.{first}
use Rattle.saved_folders.proofs.writing.write_tables.Given as goal

-- the files of the tables so far are whole, and no call has failed
abbrev pub invariant-loop-text : goal.invariant-loop-text
invariant-loop-text g l =
    let files = g.F.Files in
    record {
      so_far : files.tree l.files ≡ option_map (saved (first (table_written l.folder) l.tables l.text-index)) (files.tree l.fn.files);
      read_count : files.read_faults l.files ≡ files.read_faults l.fn.files;
      write_count : files.write_faults l.files ≡ files.write_faults l.fn.files;
    }
