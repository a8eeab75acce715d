-- What lines behind others name, behind what those named.
use Rattle.std.proofs.Common.{ℕ, List, ◌++◌, Result, Ok, Err}
use Rattle.list_files.specs.declared.fault.ListFault.{ListFault}

abbrev pub ahead : List ℕ → Result (List ℕ) ListFault → Result (List ℕ) ListFault
ahead places (Err fault) = Err fault
ahead places (Ok more) = Ok (places ++ more)
