-- Lines of a COPY text that read as rows so far.
use Rattle.std.proofs.Common.{◌≡◌, ℕ, ◌+◌, List, [], ◌∷◌, ◌++◌, map, length, Some, None, Result, Ok, Err, refl, sym, ap, ◌∙◌, arith}
use Rattle.copy_text.specs.declared.fault.CopyFault.{CopyFault}
use Rattle.cat_model.specs.Values.{Row}
use Rattle.copy_effects.specs.Prepared.{first_fault}

abbrev pub Read : Type 0
Read = Result Row CopyFault

-- rows in front only count
pub behind_rows : (number : ℕ) (rows : List Row) (more : List Read) → first_fault number (map Ok rows ++ more) ≡ first_fault (number + length rows) more
behind_rows number [] more = ap (λ n. first_fault n more) (omega arith)
behind_rows number (row ∷ rows) more = behind_rows (number + 1) rows more ∙ ap (λ n. first_fault n more) (omega arith)

-- the first fault stands behind the rows
pub fault_behind : (lines : List Read) (rows : List Row) (fault : CopyFault) (more : List Read) → lines ≡ map Ok rows ++ Err fault ∷ more
    → first_fault 1 lines ≡ Some (length rows + 1, fault)
fault_behind lines rows fault more e =
    ap (λ (ls : List Read). first_fault 1 ls) e ∙ behind_rows 1 rows (Err fault ∷ more) ∙ ap (λ (n : ℕ). Some (n, fault)) (omega arith)

append_none : (rows : List Read) → rows ++ [] ≡ rows
append_none [] = refl
append_none (row ∷ rows) = ap (λ (rs : List Read). row ∷ rs) (append_none rows)

-- no line is left
pub all_read : (lines : List Read) (rows : List Row) (more : List Read) → lines ≡ map Ok rows ++ more → more ≡ [] → lines ≡ map Ok rows
all_read lines rows more e none = e ∙ ap (λ (ls : List Read). map Ok rows ++ ls) none ∙ append_none (map Ok rows)

pub no_fault : (lines : List Read) (rows : List Row) → lines ≡ map Ok rows → first_fault 1 lines ≡ None
no_fault lines rows e =
    ap (λ (ls : List Read). first_fault 1 ls) (e ∙ sym (append_none (map Ok rows))) ∙ behind_rows 1 rows []
