-- What the first fault of a table is, apart from going over its lines.
use Rattle.std.specs.Prelude.{◌≡◌, ℕ, ◌+◌, ◌<◌, List, length, take, Option, Some, None, ◌⊎◌}
use Rattle.std.specs.List.{slice_get}
use Rattle.cat_names.specs.declared.fault.FaultKind.{FaultKind}
use Rattle.cat_names.specs.declared.fault.LineFault.{LineFault}
use Rattle.cat_names.specs.declared.fault.Findings.{Findings}
use Rattle.cat_names.specs.Findings.{first_kind}

-- no row has a fault behind the rows before it
abbrev pub AreClean : {R : Type 0} → (List R → R → Findings) → List R → Type 0
AreClean {R} find rows = (i : ℕ) (row : R) → slice_get rows i ≡ Some row → first_kind (find (take i rows) row) ≡ None

-- the fault is that of a row, at whose line it counts, and no earlier row has one
pub record IsFirstRow {R : Type 0} (find : List R → R → Findings) (rows : List R) (fault : LineFault) : Type 0 where
  pub place : ℕ
  pub row : R
  pub there : slice_get rows place ≡ Some row
  pub line : fault.line ≡ place + 1
  pub kind : first_kind (find (take place rows) row) ≡ Some fault.kind
  pub earlier : (j : ℕ) (r : R) → j < place → slice_get rows j ≡ Some r → first_kind (find (take j rows) r) ≡ None

-- the fault of the first row that has one, or, where none has, that of the table's end, at the line after the last
abbrev pub IsFirstFault : {R : Type 0} → (List R → R → Findings) → Option FaultKind → List R → LineFault → Type 0
IsFirstFault find ending rows fault = IsFirstRow find rows fault ⊎ (AreClean find rows × (fault.line ≡ length rows + 1) × (ending ≡ Some fault.kind))

-- neither a row nor the table's end has a fault
abbrev pub IsCleanTable : {R : Type 0} → (List R → R → Findings) → Option FaultKind → List R → Type 0
IsCleanTable find ending rows = AreClean find rows × (ending ≡ None)
