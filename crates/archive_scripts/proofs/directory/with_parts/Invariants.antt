use Rattle.std.proofs.Common.{◌≡◌, drop, Some}
use Rattle.dump_ports.specs.Tree.{Tree}
use Rattle.fmt_directory.specs.Answers.{Holds}
use Rattle.fmt_directory.specs.Directories.{Directory}
use Rattle.archive_scripts.specs.Directories.{parts_due}
use Rattle.archive_scripts.proofs.directory.with_parts.Given as goal

abbrev pub invariant-loop-place : goal.invariant-loop-place
invariant-loop-place g l =
    let files = g.F.Files in
    record {
      kept : files.tree l.files ≡ files.tree l.fn.files;
      read_count : files.read_faults l.files ≡ files.read_faults l.fn.files;
      write_count : files.write_faults l.files ≡ files.write_faults l.fn.files;
      so_far : (d : Directory) (tree : Tree) → Holds l.reader d → files.tree l.fn.files ≡ Some tree
          → parts_due l.owners d tree l.bytes l.all.items (drop l.place-index l.places) ≡ parts_due l.owners d tree l.used l.fn.text.items l.places;
    }
