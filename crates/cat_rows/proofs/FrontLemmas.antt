-- Rows and cells that were read stand in front of what is still to be read.
use Rattle.std.proofs.Common.{◌≡◌, ℕ, ◌+◌, ◌<◌, ◌≤◌, List, [], ◌∷◌, ◌++◌, length, get_or, drop, Result, Ok, Err, refl, sym, ap, ◌∙◌, append_assoc, add-one}
use Rattle.std.proofs.Math.Seq.{drop-cons}
use Rattle.std.proofs.lemmas.List.{append-nil, drop_all}
use Rattle.copy_text.specs.Lines.{data_lines}
use Rattle.cat_rows.specs.declared.table.SysTable.{SysTable}
use Rattle.cat_rows.specs.Kinds.{columns}
use Rattle.cat_rows.specs.declared.kind.ColKind.{ColKind}
use Rattle.cat_rows.specs.declared.cell.Cell.{Cell}
use Rattle.cat_rows.specs.declared.fault.RowFault.{RowFault}
use Rattle.cat_rows.specs.declared.fault.TableFault.{TableFault}
use Rattle.cat_rows.specs.declared.fault.ReadCellsError.{ReadCellsError}
use Rattle.cat_rows.specs.declared.fault.ReadCellsError.TheVariants.{Fault, Memory}
use Rattle.cat_rows.specs.declared.fault.ReadTableError.{ReadTableError}
use Rattle.cat_rows.specs.declared.fault.ReadTableError.TheVariants as table_errors
use Rattle.cat_rows.specs.Reading.{FailsRow, FailsTable, ◌>>=◌, Place, cell_at, cells_at, at_line, row_start, cells_of, table_from, table_of}

abbrev pub with_front : {A F : Type 0} → List A → Result (List A) F → Result (List A) F
with_front xs (Ok ys) = Ok (xs ++ ys)
with_front xs (Err e) = Err e

pub with_front-one : {A F : Type 0} (xs : List A) (x : A) (r : Result (List A) F) → with_front xs (r >>= (λ ys. Ok (x ∷ ys))) ≡ with_front (xs ++ x ∷ []) r
with_front-one xs x (Ok ys) = ap Ok (sym (append_assoc xs (x ∷ []) ys))
with_front-one xs x (Err e) = refl

pub with_front-nil : {A F : Type 0} (r : Result (List A) F) → with_front [] r ≡ r
with_front-nil (Ok ys) = refl
with_front-nil (Err e) = refl

-- where one reading has a fault exactly as another
pub FailsRow-from : {Y Z : Type 0} (e : ReadCellsError) (read : Result Y RowFault) (other : Result Z RowFault) → ((f : RowFault) → read ≡ Err f → other ≡ Err f) → FailsRow e read → FailsRow e other
FailsRow-from Memory read other same fails = tt
FailsRow-from (Fault f) read other same fails = same f fails

pub FailsTable-from : {Y Z : Type 0} (e : ReadTableError) (read : Result Y TableFault) (other : Result Z TableFault) → ((f : TableFault) → read ≡ Err f → other ≡ Err f) → FailsTable e read → FailsTable e other
FailsTable-from table_errors.Memory read other same fails = tt
FailsTable-from (table_errors.Fault f) read other same fails = same f fails

-- ---- cells

pub cells_of-started : (kinds : List ColKind) (n : ℕ) (line : List ℕ) (place : Place) → length kinds ≡ n → row_start n line ≡ Ok place → cells_of kinds line ≡ cells_at kinds place
unfolding cells_of
cells_of-started kinds n line place len started = rw (len, started) refl

pub cells_step : (kinds : List ColKind) (i : ℕ) (d : ColKind) (place after : Place) (cell : Cell) (done : List Cell) (whole : Result (List Cell) RowFault) → i < length kinds → cell_at (get_or kinds i d) place ≡ Ok (cell, after) → whole ≡ with_front done (cells_at (drop i kinds) place) → whole ≡ with_front (done ++ cell ∷ []) (cells_at (drop (i + 1) kinds) after)
unfolding cells_at
cells_step kinds i d place after cell done whole lt read so_far =
    let here : drop i kinds ≡ get_or kinds i d ∷ drop (i + 1) kinds = rw add-one (drop-cons kinds i d lt) in
    let opened : cells_at (drop i kinds) place ≡ (cells_at (drop (i + 1) kinds) after >>= (λ others. Ok (cell ∷ others))) = rw (here, read) refl in
    so_far ∙ ap (with_front done) opened ∙ with_front-one done cell (cells_at (drop (i + 1) kinds) after)

pub cells_fail : (kinds : List ColKind) (i : ℕ) (d : ColKind) (place : Place) (fault : RowFault) (done : List Cell) (whole : Result (List Cell) RowFault) → i < length kinds → cell_at (get_or kinds i d) place ≡ Err fault → whole ≡ with_front done (cells_at (drop i kinds) place) → whole ≡ Err fault
unfolding cells_at
cells_fail kinds i d place fault done whole lt read so_far =
    let here : drop i kinds ≡ get_or kinds i d ∷ drop (i + 1) kinds = rw add-one (drop-cons kinds i d lt) in
    let opened : cells_at (drop i kinds) place ≡ Err fault = rw (here, read) refl in
    so_far ∙ ap (with_front done) opened

pub cells_end : (kinds : List ColKind) (i : ℕ) (place : Place) (done : List Cell) (whole : Result (List Cell) RowFault) → length kinds ≤ i → whole ≡ with_front done (cells_at (drop i kinds) place) → whole ≡ Ok done
unfolding cells_at
cells_end kinds i place done whole le so_far =
    let none : drop i kinds ≡ [] = drop_all i kinds le in
    let opened : cells_at (drop i kinds) place ≡ Ok [] = rw none refl in
    so_far ∙ ap (with_front done) opened ∙ ap Ok (append-nil done)

-- ---- rows

pub table_of-start : (table : SysTable) (text : List ℕ) → table_of table text ≡ with_front [] (table_from (columns table) 1 (data_lines text))
unfolding table_of
table_of-start table text = sym (with_front-nil (table_from (columns table) 1 (data_lines text)))

pub table_step : (kinds : List ColKind) (n : ℕ) (line : List ℕ) (more : List (List ℕ)) (row : List Cell) (done : List (List Cell)) (whole : Result (List (List Cell)) TableFault) → at_line n (cells_of kinds line) ≡ Ok row → whole ≡ with_front done (table_from kinds n (line ∷ more)) → whole ≡ with_front (done ++ row ∷ []) (table_from kinds (n + 1) more)
unfolding table_from
table_step kinds n line more row done whole read so_far =
    let opened : table_from kinds n (line ∷ more) ≡ (table_from kinds (n + 1) more >>= (λ others. Ok (row ∷ others))) = rw read refl in
    so_far ∙ ap (with_front done) opened ∙ with_front-one done row (table_from kinds (n + 1) more)

pub table_fail : (kinds : List ColKind) (n : ℕ) (line : List ℕ) (more : List (List ℕ)) (fault : TableFault) (done : List (List Cell)) (whole : Result (List (List Cell)) TableFault) → at_line n (cells_of kinds line) ≡ Err fault → whole ≡ with_front done (table_from kinds n (line ∷ more)) → whole ≡ Err fault
unfolding table_from
table_fail kinds n line more fault done whole read so_far =
    let opened : table_from kinds n (line ∷ more) ≡ Err fault = rw read refl in
    so_far ∙ ap (with_front done) opened

pub table_end : (kinds : List ColKind) (n : ℕ) (done : List (List Cell)) (whole : Result (List (List Cell)) TableFault) → whole ≡ with_front done (table_from kinds n []) → whole ≡ Ok done
unfolding table_from
table_end kinds n done whole so_far = so_far ∙ ap Ok (append-nil done)
