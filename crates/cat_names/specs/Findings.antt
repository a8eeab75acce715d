-- What is wrong with a row of a table, and the first fault of a table's lines.
-- Lines are tried in order, and at one line the kinds of fault in the order in which they are listed here.
use Rattle.std.specs.Prelude.{ℕ, ◌+◌, Bool, List, [], ◌∷◌, ◌++◌, length, Option, Some, None, if◌then◌else◌}
use Rattle.cat_rows.specs.declared.table.SysTable.{SysTable}
use Rattle.cat_model.specs.declared.words.What.{What}
use Rattle.cat_names.specs.declared.fault.FaultKind.{FaultKind}
use Rattle.cat_names.specs.declared.fault.FaultKind.TheVariants as kind
use Rattle.cat_names.specs.declared.fault.LineFault.{LineFault}
use Rattle.cat_names.specs.declared.fault.CatFault.{CatFault}
use Rattle.cat_names.specs.declared.fault.Findings.{Findings}

-- what the profile leaves out, where something of it was met
abbrev pub left_out_kind : Option What → Option FaultKind
left_out_kind (Some what) = Some (kind.OutOfProfile what)
left_out_kind None = None

-- the first of two things that are left out
abbrev pub left_out_first : Option What → Option What → Option What
left_out_first (Some what) later = Some what
left_out_first None later = later

abbrev pub dangling_unless : Bool → Option FaultKind
dangling_unless there = if there then None else Some kind.Dangling

-- the first of a row's faults
abbrev pub first_kind : Findings → Option FaultKind
first_kind f =
    if f.repeated_oid then Some kind.RepeatedOid
    else if f.repeated_name then Some kind.RepeatedName
    else if f.dangling then Some kind.Dangling
    else if f.bad_text then Some kind.BadText
    else left_out_kind f.left_out

abbrev pub fault_or : ℕ → Option FaultKind → Option LineFault → Option LineFault
fault_or line (Some kind) more = Some (record { line = line; kind = kind })
fault_or line None more = more

-- The first fault of these rows, which stand behind others, and then of the table's end, whose line is the one after
-- its last. What is found at a row depends on the rows before it.
unfoldable pub first_from : {R : Type 0} → (List R → R → Findings) → Option FaultKind → List R → List R → Option LineFault
first_from find ending before [] = fault_or (length before + 1) ending None
first_from find ending before (row ∷ rows) = fault_or (length before + 1) (first_kind (find before row)) (first_from find ending (before ++ row ∷ []) rows)

-- the first fault of a table
abbrev pub first_fault : {R : Type 0} → (List R → R → Findings) → Option FaultKind → List R → Option LineFault
first_fault find ending rows = first_from find ending [] rows

-- a fault of a line as one of the table
abbrev pub in_table : SysTable → Option LineFault → Option CatFault
in_table table (Some fault) = Some (record { table = table; line = fault.line; kind = fault.kind })
in_table table None = None

-- the first of two
abbrev pub fault_before : Option CatFault → Option CatFault → Option CatFault
fault_before (Some fault) later = Some fault
fault_before None later = later
