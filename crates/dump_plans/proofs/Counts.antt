-- Counts of faults where data files are looked for.
use Rattle.std.proofs.Common.{◌≡◌, ℕ, Result, Err}
use Rattle.dump_files.specs.declared.stop.DumpStop.{DumpStop}
use Rattle.dump_files.specs.declared.stop.DumpStop.TheVariants.{Missing, TooLarge, ReadFault, BadRows, WriteFault, Memory}
use Rattle.dump_files.specs.Stops.{IsOfLooking}
use Rattle.dump_files.specs.Stops.{CountsRead as CountsStop}
use Rattle.tool_words.specs.Answers.{CountsRead}
use Rattle.dump_plans.specs.Outcomes.{stop_outcome}

pub looking_counts : (X Y : Type 0) (stop : DumpStop) (a b : ℕ) → IsOfLooking stop → CountsStop {X = Y} (Err stop) a b → CountsRead {X = X} (Err (stop_outcome stop)) a b
looking_counts X Y (Missing name) a b h c = c
looking_counts X Y (TooLarge size) a b h c = c
looking_counts X Y ReadFault a b h c = c
looking_counts X Y (BadRows table first) a b h c = elim h [ ]
looking_counts X Y WriteFault a b h c = elim h [ ]
looking_counts X Y Memory a b h c = c
