-- The first line that reads as no row stands behind those that do; or no line is left.
use Rattle.std.proofs.Common.{◌≡◌, ℕ, ◌+◌, length, vec_len, List, ◌∷◌, ◌++◌, map, Some, Ok, Err, refl, sym, ap, ◌∙◌}
use Rattle.copy_text.specs.Reading.{row_of}
use Rattle.data_rows.specs.Rows.{read_lines}
use Rattle.copy_effects.proofs.Preparing.{Read, fault_behind, all_read, no_fault}
use Rattle.copy_effects.proofs.prepared.prepare.Goals as goal

pub returns-in-Err : goal.returns-in-Err
returns-in-Err c =
    let fault = c.in-Err.fault in
    let more = read_lines c.in-Some.behind.now in
    let left : read_lines c.lines.rest.now ≡ Err fault ∷ more =
    ap (map row_of) c.in-Some.ensures.some ∙ ap (λ (read : Read). read ∷ more) (sym c.in_ok-row.ensures ∙ c.in-Err.is) in
    let count : length c.lines.rows.items ≡ vec_len c.lines.rows = search in
    fault_behind (read_lines c.args.text.now) c.lines.rows.items fault more (c.lines.invariant.0 ∙ ap (λ (lines : List Read). map Ok c.lines.rows.items ++ lines) left)
    ∙ ap (λ (n : ℕ). Some (n + 1, fault)) (count ∙ sym c.len.ensures)

pub returns : goal.returns
returns c =
    let read = all_read (read_lines c.args.text.now) c.lines.rows.items (read_lines c.lines.rest.now) c.lines.invariant.0 (ap (map row_of) c.in_default.ensures.none) in
    (refl, no_fault (read_lines c.args.text.now) c.lines.rows.items read)
