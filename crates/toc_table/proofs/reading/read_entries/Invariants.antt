use Rattle.std.proofs.Common.{◌≡◌, ◌++◌, ◌-◌, []}
use Rattle.toc_parts.specs.Parts.{state_after, counted_at, lefts_at}
use Rattle.toc_parts.proofs.Loops.{with_front}
use Rattle.toc_table.specs.Ids.{AreIds}
use Rattle.toc_table.specs.Tables.{entries}
use Rattle.toc_table.proofs.reading.read_entries.Given as goal

abbrev pub invariant-loop : goal.invariant-loop
invariant-loop l =
    let items = entries l.directory in
    let earlier = state_after items [] l.entries.items in
    record {
      read : with_front l.entries.items (counted_at items (l.count - l.counter) earlier l.left) ≡ counted_at items l.count [] l.rest;
      lefts : l.lefts.items ++ lefts_at items (l.count - l.counter) earlier l.left ≡ lefts_at items l.count [] l.rest;
      ids : AreIds l.ids earlier;
    }
