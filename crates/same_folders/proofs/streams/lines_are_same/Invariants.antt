-- The first bytes of both files are the same, and were seen; no call has failed.
use Rattle.std.proofs.Common.{◌≡◌, ◌-◌, [], take, Some}
use Rattle.dump_ports.specs.Tree.{Tree, bytes_at}
use Rattle.plain_loads.specs.Trying.{Seen}
use Rattle.same_folders.proofs.streams.lines_are_same.Given as goal

abbrev pub invariant-parts : goal.invariant-parts
invariant-parts g l =
    let files = g.F.Files in
    record {
      kept : files.tree l.files ≡ files.tree l.fn.files;
      read_count : files.read_faults l.files ≡ files.read_faults l.fn.files;
      write_count : files.write_faults l.files ≡ files.write_faults l.fn.files;
      same : (tree : Tree) → files.tree l.fn.files ≡ Some tree → take l.done (bytes_at tree l.first) ≡ take l.done (bytes_at tree l.second);
      seen : (tree : Tree) → files.tree l.fn.files ≡ Some tree → Seen l.trial l.fn.keys [] → Seen l.trial l.keys (take l.done (bytes_at tree l.first));
    }

abbrev pub decreases-parts : goal.decreases-parts
decreases-parts g l = l.len - l.done
