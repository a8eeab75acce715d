-- What is read so far is within the limit, and no call has failed.
use Rattle.std.proofs.Common.{◌≡◌, ◌≤◌, drop, Some}
use Rattle.dump_ports.specs.Tree.{Tree}
use Rattle.folder_io.specs.declared.fault.FolderLimit.TheVariants.{Folder}
use Rattle.folder_io.specs.Folders.{most_bytes}
use Rattle.folder_rows.proofs.Steps.{IsRead}
use Rattle.folder_rows.proofs.reading.read_texts.Given as goal

abbrev pub invariant-loop-table : goal.invariant-loop-table
invariant-loop-table g l =
    let files = g.F.Files in
    record {
      kept : files.tree l.files ≡ files.tree l.fn.files;
      read_count : files.read_faults l.files ≡ files.read_faults l.fn.files;
      write_count : files.write_faults l.files ≡ files.write_faults l.fn.files;
      within : l.bytes ≤ most_bytes Folder;
      so_far : (tree : Tree) → files.tree l.fn.files ≡ Some tree → IsRead l.folder tree l.used l.tables l.rows l.bytes (drop l.table-index l.tables);
    }
