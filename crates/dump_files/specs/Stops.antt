-- What an answer tells of a row that fails, and how the counts of faults go with it.
use Rattle.std.specs.Prelude.{◌≡◌, ℕ, ◌+◌, ◌≤◌, ◌<◌, List, length, Some, Result, Ok, Err}
use Rattle.dump_ports.specs.Faults.{HasRisen}
use Rattle.data_rows.specs.declared.fault.CheckRowsError.{CheckRowsError}
use Rattle.data_rows.specs.declared.fault.CheckRowsError.TheVariants.{Fault}
use Rattle.data_rows.specs.declared.fault.CheckRowsError.TheVariants as faults
use Rattle.dump_files.specs.Spelled.{Spelled}
use Rattle.dump_files.specs.declared.stop.DumpStop.{DumpStop}
use Rattle.dump_files.specs.declared.stop.DumpStop.TheVariants.{Missing, TooLarge, ReadFault, BadRows, WriteFault, Memory}

-- the count of read faults rose where the answer is ReadFault, and stayed where it isn't
abbrev pub CountsRead : {X : Type 0} → Result X DumpStop → ℕ → ℕ → Type 0
CountsRead (Err ReadFault) before after = (before ≤ after) × HasRisen before after
CountsRead _ before after = after ≡ before

-- the count of write faults rose where the answer is WriteFault, and stayed where it isn't
abbrev pub CountsWrite : {X : Type 0} → Result X DumpStop → ℕ → ℕ → Type 0
CountsWrite (Err WriteFault) before after = (before ≤ after) × HasRisen before after
CountsWrite _ before after = after ≡ before

-- a row that fails is the one that is due
abbrev pub TellsFault : {X : Type 0} → Result X CheckRowsError → Spelled → Type 0
TellsFault (Err (Fault first)) due = due.fault ≡ Some first
TellsFault _ due = Unit {0}

-- a data file has at most 2^40 bytes
abbrev pub most : ℕ
most = 1099511627776

-- Why a table's data file with this text wasn't read on, of which this was due: its first row that fails, more bytes than
-- it may have, a failed read, or want of memory.
abbrev pub IsReadStop : ℕ → List ℕ → Spelled → DumpStop → Type 0
IsReadStop table text due (BadRows of first) = (of ≡ table) × (due.fault ≡ Some first)
IsReadStop table text due (TooLarge n) = (n ≡ most + 1) × (most < length text)
IsReadStop table text due ReadFault = Unit {0}
IsReadStop table text due Memory = Unit {0}
IsReadStop table text due stop = ⊥

-- one that comes while rows are read
abbrev pub IsOfReading : DumpStop → Type 0
IsOfReading (Missing name) = ⊥
IsOfReading WriteFault = ⊥
IsOfReading stop = Unit {0}

-- why the rows of a table's data file with this text weren't put out, of which this was due
abbrev pub IsPutStop : ℕ → List ℕ → Spelled → DumpStop → Type 0
IsPutStop table text due WriteFault = Unit {0}
IsPutStop table text due stop = IsReadStop table text due stop

-- one that comes while rows are read and put out
abbrev pub IsOfPutting : DumpStop → Type 0
IsOfPutting (Missing name) = ⊥
IsOfPutting stop = Unit {0}

-- one that comes while bytes are put out
abbrev pub IsLate : DumpStop → Type 0
IsLate WriteFault = Unit {0}
IsLate Memory = Unit {0}
IsLate stop = ⊥

-- the same answer of a table
abbrev pub told_of : {X : Type 0} → ℕ → Result X CheckRowsError → Result X DumpStop
told_of table (Ok x) = Ok x
told_of table (Err (Fault first)) = Err (BadRows table first)
told_of table (Err faults.Memory) = Err Memory

-- one that comes while files are looked for
abbrev pub IsOfLooking : DumpStop → Type 0
IsOfLooking (BadRows table first) = ⊥
IsOfLooking WriteFault = ⊥
IsOfLooking stop = Unit {0}
