use Rattle.std.proofs.Common.{◌≡◌, ◌+◌, ◌*◌, ◌≤◌, ◌++◌, Some, List, ℕ, length}
use Rattle.dump_ports.specs.Tree.{Tree}
use Rattle.dump_files.specs.Stops.{most}
use Rattle.dump_files.specs.Outlets.{Outside, outside, Stands}
use Rattle.dump_plain.specs.Stops.{AreApart, Goes, IsLeft}
use Rattle.dump_archives.specs.Customs.{blocks_out, places_from}
use Rattle.dump_archives.specs.Growing.{Grown}
use Rattle.dump_archives.proofs.custom.put_blocks.Given as goal

-- the blocks of the entries so far are out or wait, and no call has failed
abbrev pub invariant-loop-entry : goal.invariant-loop-entry
invariant-loop-entry g l =
    let files = g.F.Files in
    let sink = g.O.Sink in
    record {
      read_count : files.read_faults l.files ≡ files.read_faults l.fn.files;
      write_count : files.write_faults l.files ≡ files.write_faults l.fn.files;
      out_count : sink.faults l.out ≡ sink.faults l.fn.out;
      few : l.rows + most * length l.leftover ≤ most * length l.fn.needed;
      left : (tree : Tree) → IsLeft tree l.fn.target l.fn.needed l.leftover;
      going : (tree : Tree) (done : List ℕ) (before : Outside) → Stands l.fn.target done before (outside (files.tree l.fn.files) (sink.written l.fn.out)) l.fn.waiting.items → before.tree ≡ Some tree → AreApart l.fn.target l.fn.needed → Goes l.fn.target (blocks_out tree l.fn.entries l.fn.needed) done before (outside (files.tree l.files) (sink.written l.out)) l.waiting.items l.rows (blocks_out tree l.rest l.leftover);
      grown : (done : List ℕ) (before : Outside) → Stands l.fn.target done before (outside (files.tree l.fn.files) (sink.written l.fn.out)) l.fn.waiting.items → l.fn.passed + length l.fn.waiting.items ≡ length done → Grown l.fn.target done before (outside (files.tree l.files) (sink.written l.out)) l.waiting.items l.passed;
      placed : (tree : Tree) (done : List ℕ) (before : Outside) (name : List ℕ) → l.fn.target ≡ Some name → Stands l.fn.target done before (outside (files.tree l.fn.files) (sink.written l.fn.out)) l.fn.waiting.items → l.fn.passed + length l.fn.waiting.items ≡ length done → before.tree ≡ Some tree → AreApart l.fn.target l.fn.needed → l.fn.places.items ++ places_from tree (l.fn.passed + length l.fn.waiting.items) l.fn.entries l.fn.needed ≡ l.places.items ++ places_from tree (l.passed + length l.waiting.items) l.rest l.leftover;
    }

abbrev pub decreases-loop-entry : goal.decreases-loop-entry
decreases-loop-entry g l = length l.rest
