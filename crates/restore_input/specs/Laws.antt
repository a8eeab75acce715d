-- The fault of what is due, where there is one.
use Rattle.std.specs.Prelude.{Option, Some, None, Result, Ok, Err}
use Rattle.restore_texts.specs.declared.fault.TextFault.{TextFault}

abbrev pub fault_of : {A : Type 0} → Result A TextFault → Option TextFault
fault_of (Ok x) = None
fault_of (Err fault) = Some fault
