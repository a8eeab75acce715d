-- A COPY text whose lines all read as rows, or the first that doesn't.
use Rattle.std.specs.Prelude.{◌≡◌, ℕ, ◌+◌, List, [], ◌∷◌, map, Option, Some, None, Result, Ok, Err}
use Rattle.copy_text.specs.declared.fault.CopyFault.{CopyFault}
use Rattle.cat_model.specs.Values.{Bytes, Row}
use Rattle.data_rows.specs.Rows.{read_lines}
use Rattle.copy_effects.specs.declared.prepared.PrepareError.{PrepareError}
use Rattle.copy_effects.specs.declared.prepared.PrepareError.TheVariants as error

-- the lines of the text read as exactly these rows
abbrev pub ReadsAs : Bytes → List Row → Type 0
ReadsAs text rows = read_lines text ≡ map Ok rows

-- where rows were read, they are those of the text
abbrev pub ReadsAsSome : Bytes → Option (List Row) → Type 0
ReadsAsSome text None = Unit {0}
ReadsAsSome text (Some rows) = ReadsAs text rows

-- the first of these lines that reads as no row, by its number, and why; they count from `number`
abbrev pub first_fault : ℕ → List (Result Row CopyFault) → Option (ℕ × CopyFault)
first_fault number [] = None
first_fault number (Ok row ∷ more) = first_fault (number + 1) more
first_fault number (Err fault ∷ more) = Some (number, fault)

-- what was answered for the text: it itself where each of its lines reads as a row, and else the first that doesn't
abbrev pub IsPrepared : Bytes → Result Bytes PrepareError → Type 0
IsPrepared text (Ok prepared) = (prepared ≡ text) × (first_fault 1 (read_lines text) ≡ None)
IsPrepared text (Err (error.Row row fault)) = first_fault 1 (read_lines text) ≡ Some (row, fault)
IsPrepared text (Err error.Memory) = Unit {0}
