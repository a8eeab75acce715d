-- The oids of a catalogue's tables, in whatever order the rows stand; and that each is one that a cell can hold.
use Rattle.std.proofs.Common.{◌≡◌, ℕ, zero, suc, ◌+◌, ◌<◌, ◌^◌, Bool, true, false, cond, List, [], ◌∷◌, map, pos, Option, Some, None, refl, sym, ap, ◌∙◌, arith}
use Rattle.std.specs.Prelude.{filter_map}
use Rattle.std.specs.List.{AllByRecursion, filter, sum_by}
use Rattle.std.specs.List.Sorted.{IsPermutation}
use Rattle.std.proofs.lemmas.List.Elements.{recursion_from_All, All-from_recursion}
use Rattle.std.proofs.lemmas.List.Sorted.{All-permutation, IsPermutation-sym, sum_by-IsPermutation}
use Rattle.std.proofs.lemmas.List.Sums.{sum_by-cons}
use Rattle.oid_groups.specs.Orders.{by_number}
use Rattle.cat_rows.specs.declared.cell.Cell.{Cell}
use Rattle.cat_rows.specs.declared.catalogue.Catalogue.{Catalogue}
use Rattle.cat_rows.specs.declared.relations.ClassRow.{ClassRow}
use Rattle.cat_rows.specs.declared.table.SysTable.TheVariants.{PgClass}
use Rattle.cat_rows.specs.RowCells.{class_cells}
use Rattle.cat_rows.specs.Writing.{IsRowOf, AreRowsOf}
use Rattle.table_rows.specs.Tables.{is_table_row, unsorted_oids, table_oids}
use Rattle.exports.specs.Cells.{relation_of}
use Rattle.saved_folders.proofs.Rising.{is_one, is_itself, one_by_number, each_by_number}

-- ---- rows of relations as cells

abbrev pub relations_of : List (List Cell) → List ClassRow
relations_of cells = filter_map relation_of cells

pub back : (rows : List ClassRow) → relations_of (map class_cells rows) ≡ rows
back [] = refl
back (row ∷ rows) = ap (λ more. row ∷ more) (back rows)

-- ---- how often it stands among them

times : ℕ → ℕ → List ℕ
times zero z = []
times (suc n) z = z ∷ times n z

abbrev hit : ℕ → Option ClassRow → ℕ
hit z None = 0
hit z (Some row) = cond (is_table_row row) (cond (is_one z row.oid) 1 0) 0

abbrev hits : ℕ → List Cell → ℕ
hits z cells = hit z (relation_of cells)

-- the oid of a table's row in front of others
one_more : (z n : ℕ) (row : ClassRow) (oids : List ℕ) → filter (is_one z) oids ≡ times n z → (b : Bool) → is_one z row.oid ≡ b
    → cond {A = List ℕ} b (row.oid ∷ filter (is_one z) oids) (filter (is_one z) oids) ≡ times (cond b 1 0 + n) z
unfolding times
one_more z n row oids rest true is =
    let one : 1 + n ≡ suc n = omega arith in
    ap (λ (h : ℕ). h ∷ filter (is_one z) oids) (sym (is_itself z row.oid is)) ∙ ap (λ (l : List ℕ). z ∷ l) rest ∙ ap (λ (k : ℕ). times k z) (sym one)
one_more z n row oids rest false is =
    let none : 0 + n ≡ n = omega arith in
    rest ∙ ap (λ (k : ℕ). times k z) (sym none)

-- a relation in front of others
one_relation : (z n : ℕ) (row : ClassRow) (rows : List ClassRow) → filter (is_one z) (unsorted_oids rows) ≡ times n z → (b : Bool) → is_table_row row ≡ b
    → filter (is_one z) (map (λ r. r.oid) (cond {A = List ClassRow} b (row ∷ filter is_table_row rows) (filter is_table_row rows))) ≡ times (cond b (cond (is_one z row.oid) 1 0) 0 + n) z
one_relation z n row rows rest true is = one_more z n row (unsorted_oids rows) rest (is_one z row.oid) refl
one_relation z n row rows rest false is =
    let none : 0 + n ≡ n = omega arith in
    rest ∙ ap (λ (k : ℕ). times k z) (sym none)

-- a row of cells in front of others
one_row : (z n : ℕ) (c : List Cell) (cs : List (List Cell)) → filter (is_one z) (unsorted_oids (relations_of cs)) ≡ times n z → (o : Option ClassRow) → relation_of c ≡ o
    → filter (is_one z) (unsorted_oids (relations_of (c ∷ cs))) ≡ times (hits z c + n) z
one_row z n c cs rest None is =
    let none : 0 + n ≡ n = omega arith in
    rw is (rest ∙ ap (λ (k : ℕ). times k z) (sym none))
one_row z n c cs rest (Some row) is = rw is (one_relation z n row (relations_of cs) rest (is_table_row row) refl)

counted : (z : ℕ) (cells : List (List Cell)) → filter (is_one z) (unsorted_oids (relations_of cells)) ≡ times (sum_by (hits z) cells) z
unfolding times
counted z [] = refl
counted z (c ∷ cs) = one_row z (sum_by (hits z) cs) c cs (counted z cs) (relation_of c) refl ∙ ap (λ (n : ℕ). times n z) (sym (sum_by-cons (hits z) c cs))

-- ---- the tables of rows in any order

pub tables_stay : (cat other : Catalogue) (written : List (List Cell)) → IsPermutation (map class_cells cat.pg_class) written → other.pg_class ≡ relations_of written → table_oids other ≡ table_oids cat
unfolding table_oids
tables_stay cat other written p is =
    ap (λ (l : List ClassRow). by_number (λ o. pos o) (unsorted_oids l)) is
    ∙ one_by_number (unsorted_oids (relations_of written)) (unsorted_oids (relations_of (map class_cells cat.pg_class)))
    (λ z. counted z written ∙ ap (λ (n : ℕ). times n z) (sum_by-IsPermutation (hits z) (map class_cells cat.pg_class) written p) ∙ sym (counted z (map class_cells cat.pg_class)))
    ∙ ap (λ (l : List ClassRow). by_number (λ o. pos o) (unsorted_oids l)) (back cat.pg_class)

-- ---- oids that a cell can hold

abbrev pub Small : List ℕ → Type 0
Small oids = AllByRecursion (λ oid. oid < 2 ^ 32) oids

small_in : (rows : List ClassRow) → AllByRecursion (IsRowOf PgClass) (map class_cells rows) → Small (unsorted_oids rows)
small_in [] are = tt
small_in (row ∷ rows) are = by (is_table_row row) (small_in rows are.1)
  where
    by : (b : Bool) → Small (unsorted_oids rows) → Small (map (λ r. r.oid) (cond {A = List ClassRow} b (row ∷ filter is_table_row rows) (filter is_table_row rows)))
    by true more = (are.0.cells.0, more)
    by false more = more

pub small_oids : (cat : Catalogue) (written : List (List Cell)) → IsPermutation (map class_cells cat.pg_class) written → AreRowsOf PgClass written → Small (table_oids cat)
unfolding table_oids
small_oids cat written p are =
    each_by_number (λ oid. oid < 2 ^ 32) (unsorted_oids cat.pg_class)
    (small_in cat.pg_class
    (recursion_from_All (IsRowOf PgClass) (map class_cells cat.pg_class)
    (All-permutation (IsRowOf PgClass) written (map class_cells cat.pg_class) (IsPermutation-sym (map class_cells cat.pg_class) written p)
    (All-from_recursion (IsRowOf PgClass) written are))))
