use Rattle.std.proofs.Common.{◌≡◌, option_map}
use Rattle.saved_folders.specs.Files.{saved}
use Rattle.schema_folders.proofs.Saved.{first_files}
use Rattle.schema_folders.proofs.folder.write_tables.Given as goal

-- the files of the tables so far are whole, and no call has failed
abbrev pub invariant-loop-table : goal.invariant-loop-table
invariant-loop-table g l =
    let files = g.F.Files in
    record {
      so_far : files.tree l.files ≡ option_map (saved (first_files l.folder l.namespaces l.table-index)) (files.tree l.fn.files);
      read_count : files.read_faults l.files ≡ files.read_faults l.fn.files;
      write_count : files.write_faults l.files ≡ files.write_faults l.fn.files;
    }
