-- How the counts of writes to files and to standard output go with an answer.
use Rattle.std.specs.Prelude.{◌≡◌, ℕ, ◌≤◌, ◌⊎◌, Result, Err}
use Rattle.dump_ports.specs.Faults.{HasRisen}
use Rattle.dump_files.specs.declared.stop.DumpStop.{DumpStop}
use Rattle.dump_files.specs.declared.stop.DumpStop.TheVariants.{WriteFault}

-- one of the two rose where the answer is WriteFault, and both stayed where it isn't
abbrev pub CountsOut : {X : Type 0} → Result X DumpStop → ℕ → ℕ → ℕ → ℕ → Type 0
CountsOut (Err WriteFault) a b c d = (a ≤ b) × (c ≤ d) × (HasRisen a b ⊎ HasRisen c d)
CountsOut _ a b c d = (b ≡ a) × (d ≡ c)
