-- The first bytes are those of the text, and no call has failed.
use Rattle.std.proofs.Common.{◌≡◌, ◌≤◌, ◌-◌, length, take, Some}
use Rattle.dump_ports.specs.Tree.{Tree, bytes_at}
use Rattle.same_texts.proofs.pieces.begins_with.Given as goal

abbrev pub invariant-pieces : goal.invariant-pieces
invariant-pieces g l =
    let files = g.F.Files in
    record {
      kept : files.tree l.files ≡ files.tree l.fn.files;
      read_count : files.read_faults l.files ≡ files.read_faults l.fn.files;
      write_count : files.write_faults l.files ≡ files.write_faults l.fn.files;
      within : l.done ≤ length l.text;
      so_far : (tree : Tree) → files.tree l.fn.files ≡ Some tree → take l.done (bytes_at tree l.name) ≡ take l.done l.text;
    }

abbrev pub decreases-pieces : goal.decreases-pieces
decreases-pieces g l = length l.text - l.done
