-- What ends the writing of a dump.
use Rattle.std.proofs.Common.{◌≡◌, ℕ, ◌≤◌, arith, List, Option, None, Err, refl, ◌⊎◌, inl, inr}
use Rattle.clone_tools.specs.Halves.{IsBreak}
use Rattle.dump_files.specs.declared.file.DataFile.{DataFile}
use Rattle.dump_files.specs.declared.stop.DumpStop.{DumpStop}
use Rattle.dump_files.specs.declared.stop.DumpStop.TheVariants as stops
use Rattle.dump_files.specs.Needed.{unready}
use Rattle.dump_files.specs.Stops.{CountsRead}
use Rattle.dump_outputs.specs.Counts.{CountsOut}
use Rattle.dump_outputs.specs.Forms.{IsStop}
use Rattle.dump_plain.specs.Dumps.{BadRow}
use Rattle.dump_plans.specs.Outcomes.{stop_outcome}
use Rattle.dump_ports.specs.Faults.{HasRisen}
use Rattle.dump_ports.specs.Tree.{Tree}
use Rattle.dump_tools.specs.Due.{counts, Counted}
use Rattle.dump_tools.proofs.Counting.{alike}
use Rattle.dump_tools.proofs.Printed.{stop_is_bad}

-- a call that failed, want of memory, or the row that fails
pub break_of : (tree : Tree) (files : List DataFile) (due : Option BadRow) (stop : DumpStop) → unready tree files ≡ None → IsStop tree files due stop → IsBreak (stop_outcome stop) due
break_of tree files due (stops.Missing name) ready h = inr (stop_is_bad tree files due (stops.Missing name) ready h tt)
break_of tree files due (stops.TooLarge size) ready h = inr (stop_is_bad tree files due (stops.TooLarge size) ready h tt)
break_of tree files due stops.ReadFault ready h = inl tt
break_of tree files due (stops.BadRows table first) ready h = inr (stop_is_bad tree files due (stops.BadRows table first) ready h tt)
break_of tree files due stops.WriteFault ready h = inl tt
break_of tree files due stops.Memory ready h = inl tt

same_le : (a b : ℕ) → b ≡ a → a ≤ b
same_le a b e = omega arith

-- the counts of a dump that ended on its way
pub counted_stop : (X : Type 0) (stop : DumpStop) (r r' i w w' p p' l : ℕ) → CountsRead {X = X} (Err stop) r r' → CountsOut {X = X} (Err stop) w w' p p' → Counted (stop_outcome stop) (counts r i w p l) (counts r' i w' p' l)
counted_stop X (stops.Missing name) r r' i w w' p p' l e k = alike r r' i i w w' p p' l l e refl k.0 k.1 refl
counted_stop X (stops.TooLarge size) r r' i w w' p p' l e k = alike r r' i i w w' p p' l l e refl k.0 k.1 refl
counted_stop X stops.ReadFault r r' i w w' p p' l e k = (record { reads = e.0; inputs = same_le i i refl; writes = same_le w w' k.0; prints = same_le p p' k.1; lines = same_le l l refl }, inl e.1)
counted_stop X (stops.BadRows table first) r r' i w w' p p' l e k = alike r r' i i w w' p p' l l e refl k.0 k.1 refl
counted_stop X stops.WriteFault r r' i w w' p p' l e k = (record { reads = same_le r r' e; inputs = same_le i i refl; writes = k.0; prints = k.1; lines = same_le l l refl }, either k.2)
  where
    either : HasRisen w w' ⊎ HasRisen p p' → HasRisen w w' ⊎ HasRisen p p' ⊎ HasRisen l l
    either (inl h) = inl h
    either (inr h) = inr (inl h)
counted_stop X stops.Memory r r' i w w' p p' l e k = alike r r' i i w w' p p' l l e refl k.0 k.1 refl
