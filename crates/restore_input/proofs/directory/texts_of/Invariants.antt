-- The rows so far, and those of the entries to come, are all of them.
use Rattle.std.proofs.Common.{◌≡◌, drop, Some}
use Rattle.dump_ports.specs.Tree.{Tree}
use Rattle.fmt_directory.specs.Answers.{Holds}
use Rattle.fmt_directory.specs.Directories.{Directory}
use Rattle.restore_input.specs.Answers.{texts_seen}
use Rattle.restore_input.specs.Inputs.{texts_due}
use Rattle.restore_input.proofs.RowsRead.{before}
use Rattle.restore_input.proofs.directory.texts_of.Given as goal

abbrev pub invariant-loop-entry : goal.invariant-loop-entry
invariant-loop-entry g l =
    let files = g.F.Files in
    record {
      kept : files.tree l.files ≡ files.tree l.fn.files;
      read_count : files.read_faults l.files ≡ files.read_faults l.fn.files;
      write_count : files.write_faults l.files ≡ files.write_faults l.fn.files;
      so_far : (d : Directory) (tree : Tree) → Holds l.reader d → files.tree l.fn.files ≡ Some tree
          → before (texts_seen l.texts.items) (texts_due d tree l.bytes (drop l.entry-index l.entries)) ≡ texts_due d tree l.used l.entries;
    }
