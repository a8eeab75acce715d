-- How an answer of the code that appends agrees with what is due.
use Rattle.std.specs.Prelude.{◌≡◌, ℕ, List, ◌++◌, Result, Ok, Err}
use Rattle.fmt_directory.specs.declared.fault.DirFault.{DirFault}
use Rattle.fmt_directory.specs.Answers.{IsDue}

-- a part was appended and a number answered, as they are due; else a fault that is due
abbrev pub PutsPart : List ℕ → List ℕ → Result ℕ DirFault → Result (List ℕ × ℕ) DirFault → Type 0
PutsPart old new (Ok n) due = (more : List ℕ) × (due ≡ Ok (more, n)) × (new ≡ old ++ more)
PutsPart old new (Err fault) due = IsDue fault due
