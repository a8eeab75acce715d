use Rattle.std.proofs.Common.{◌≡◌, Some}
use Rattle.dump_ports.specs.Tree.{Tree}
use Rattle.folder_io.specs.Folders.{all_tables}
use Rattle.folder_io.specs.declared.file.ExportFile.TheVariants.{Table}
use Rattle.same_texts.specs.Alike.{HasSame}
use Rattle.same_texts.proofs.Steps.{Below}
use Rattle.same_texts.proofs.comparing.have_same_tables.Given as goal

-- the first tables have the same files, and no call has failed
abbrev pub invariant-loop-table : goal.invariant-loop-table
invariant-loop-table g l =
    let files = g.F.Files in
    record {
      kept : files.tree l.files ≡ files.tree l.fn.files;
      read_count : files.read_faults l.files ≡ files.read_faults l.fn.files;
      write_count : files.write_faults l.files ≡ files.write_faults l.fn.files;
      so_far : (tree : Tree) → files.tree l.fn.files ≡ Some tree → Below (λ table. HasSame l.first l.second tree (Table table)) all_tables l.table-index;
    }
