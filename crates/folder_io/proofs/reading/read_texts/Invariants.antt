use Rattle.std.proofs.Common.{◌≡◌, ◌*◌, ◌≤◌, drop, take, map, Some}
use Rattle.dump_ports.specs.Tree.{Tree}
use Rattle.folder_io.specs.Folders.{all_tables, table_limit, text_of, texts_length}
use Rattle.folder_io.proofs.Steps.{GoesOn}
use Rattle.folder_io.proofs.reading.read_texts.Given as goal

-- the texts so far are those of the first tables, and no call has failed
abbrev pub invariant-loop-table : goal.invariant-loop-table
invariant-loop-table g l =
    let files = g.F.Files in
    record {
      kept : files.tree l.files ≡ files.tree l.fn.files;
      read_count : files.read_faults l.files ≡ files.read_faults l.fn.files;
      write_count : files.write_faults l.files ≡ files.write_faults l.fn.files;
      so_far : (tree : Tree) → files.tree l.fn.files ≡ Some tree → GoesOn (text_of l.folder tree) all_tables l.texts.items (drop l.table-index all_tables);
      tables : map (λ text. text.table) l.texts.items ≡ take l.table-index all_tables;
      limited : texts_length l.texts.items ≤ l.table-index * table_limit;
    }
