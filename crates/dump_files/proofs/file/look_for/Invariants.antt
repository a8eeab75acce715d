use Rattle.std.proofs.Common.{◌≡◌, Some, length}
use Rattle.dump_ports.specs.Tree.{Tree}
use Rattle.dump_files.specs.Needed.{unready}
use Rattle.dump_files.proofs.NeededLemmas.{unready_from}
use Rattle.dump_files.proofs.file.look_for.Given as goal

-- what is due is due of the files that are left, and no call has failed
abbrev pub invariant-loop-file : goal.invariant-loop-file
invariant-loop-file g l =
    let files = g.F.Files in
    record {
      kept : files.tree l.files ≡ files.tree l.fn.files;
      read_count : files.read_faults l.files ≡ files.read_faults l.fn.files;
      write_count : files.write_faults l.files ≡ files.write_faults l.fn.files;
      told : (tree : Tree) → files.tree l.fn.files ≡ Some tree → unready tree l.fn.needed ≡ unready_from tree l.large l.rest;
    }

abbrev pub decreases-loop-file : goal.decreases-loop-file
decreases-loop-file g l = length l.rest
