-- Where the entries are in order, the rows so far are those of the entries so far.
use Rattle.std.proofs.Common.{map, take, filter_map}
use Rattle.std.specs.Map.Iter.{deref_pair}
use Rattle.cat_model.specs.declared.key.Key.{Key}
use Rattle.cat_model.specs.declared.value.Value.{Value}
use Rattle.object_export.specs.Relations.{IsSequenceRow}
use Rattle.object_loops.specs.Oids.{with_numbers}
use Rattle.object_export.specs.Parts.{sequence_in}
use Rattle.object_loops.specs.Owning.{AreOwned}
use Rattle.map_export.specs.Making.{AreSaid}
use Rattle.object_loops.proofs.sequences.sequence_rows.Given as goal

abbrev pub invariant-loop-i : goal.invariant-loop-i
invariant-loop-i l =
    AreOwned l.named
    → AreSaid (IsSequenceRow l.named (with_numbers l.ids l.numbers)) (filter_map (sequence_in l.named) (map (deref_pair {K = Key} {X = Value}) (take l.i l.entries))) l.rows
