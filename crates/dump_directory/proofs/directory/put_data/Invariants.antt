use Rattle.std.proofs.Common.{◌≡◌, ◌+◌, ◌*◌, ◌≤◌, Some, length}
use Rattle.dump_ports.specs.Tree.{Tree}
use Rattle.dump_files.specs.Stops.{most}
use Rattle.dump_files.specs.Outlets.{Outside, outside}
use Rattle.dump_directory.specs.Files.{AreBeyond}
use Rattle.dump_directory.specs.Directories.{Folder, data_out, Saves, IsLeft}
use Rattle.dump_directory.proofs.directory.put_data.Given as goal

-- the files of the entries so far are whole, and no call has failed
abbrev pub invariant-loop-entry : goal.invariant-loop-entry
invariant-loop-entry g l =
    let files = g.F.Files in
    let sink = g.O.Sink in
    record {
      read_count : files.read_faults l.files ≡ files.read_faults l.fn.files;
      write_count : files.write_faults l.files ≡ files.write_faults l.fn.files;
      out_count : sink.faults l.out ≡ sink.faults l.fn.out;
      few : l.rows + most * length l.leftover ≤ most * length l.fn.needed;
      left : (tree : Tree) → IsLeft tree l.fn.folder l.fn.needed l.leftover;
      saves : (tree : Tree) (before : Outside) (due : Folder) → before.tree ≡ Some tree → AreBeyond l.fn.folder l.fn.needed → Saves l.fn.folder due before (outside (files.tree l.fn.files) (sink.written l.fn.out)) 0 (data_out tree l.fn.folder l.fn.entries l.fn.needed) → Saves l.fn.folder due before (outside (files.tree l.files) (sink.written l.out)) l.rows (data_out tree l.fn.folder l.rest l.leftover);
    }

abbrev pub decreases-loop-entry : goal.decreases-loop-entry
decreases-loop-entry g l = length l.rest
