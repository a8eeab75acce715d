use Rattle.std.proofs.Common.{◌≡◌, ◌+◌, ◌≤◌, ◌-◌, List, ℕ, length}
use Rattle.dump_files.specs.Stops.{most}
use Rattle.dump_files.specs.Outlets.{Outside, outside, Stands, Holds, IsApart}
use Rattle.dump_archives.specs.Growing.{Grown}
use Rattle.dump_archives.proofs.PackingLemmas.{Packing}
use Rattle.dump_archives.proofs.block.put_block.Given as goal

-- the pieces so far are out or wait, and no call has failed
abbrev pub invariant-pieces : goal.invariant-pieces
invariant-pieces g l =
    let files = g.F.Files in
    let sink = g.O.Sink in
    record {
      within : l.reader.at ≤ most;
      read_count : files.read_faults l.files ≡ files.read_faults l.fn.files;
      write_count : files.write_faults l.files ≡ files.write_faults l.fn.files;
      out_count : sink.faults l.out ≡ sink.faults l.fn.out;
      packing : (text done : List ℕ) (before : Outside) → Stands l.fn.target done before (outside (files.tree l.fn.files) (sink.written l.fn.out)) l.fn.waiting.items → Holds before.tree l.fn.file.name text → IsApart l.fn.target l.fn.file.name → Packing l.fn.target l.fn.file.columns text done before l.id l.reader (outside (files.tree l.files) (sink.written l.out)) l.waiting.items l.run.items;
      grown : (done : List ℕ) (before : Outside) → Stands l.fn.target done before (outside (files.tree l.fn.files) (sink.written l.fn.out)) l.fn.waiting.items → l.fn.passed + length l.fn.waiting.items ≡ length done → Grown l.fn.target done before (outside (files.tree l.files) (sink.written l.out)) l.waiting.items l.passed;
    }

abbrev pub decreases-pieces : goal.decreases-pieces
decreases-pieces g l = most - l.reader.at
