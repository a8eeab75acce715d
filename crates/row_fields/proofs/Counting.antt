-- Lines of a text without an escape, each with as many fields as it has pieces.
use Rattle.std.proofs.Common.{◌≡◌, ℕ, ◌+◌, ◌-◌, ◌<◌, ◌≤◌, eqb, List, [], ◌∷◌, length, map, None, Some, Ok, Err, Result, sym, ap, subst, ◌∙◌, arith}
use Rattle.std.specs.Result.{result_err}
use Rattle.std.proofs.lemmas.Bool.{eq-eqb, cond-true}
use Rattle.std.proofs.lemmas.List.{length-map}
use Rattle.copy_text.specs.Lines.{data_lines, before_end_mark}
use Rattle.copy_text.specs.Pieces.{pieces}
use Rattle.copy_text.specs.Reading.{row_of}
use Rattle.copy_text.specs.Rows.{Field}
use Rattle.copy_text.proofs.LineLemmas.{lines_nil}
use Rattle.data_rows.specs.declared.fault.DataFault.{DataFault}
use Rattle.data_rows.specs.declared.fault.DataFault.TheVariants.{Fields}
use Rattle.data_rows.specs.Rows.{checked_row}
use Rattle.data_rows.proofs.RowLemmas.{Kept, kept_step}
use Rattle.line_fields.specs.Clear.{IsClearText, first_line, behind_line}
use Rattle.line_fields.proofs.Walks.{IsClearLine, clear_line}

-- so many rows stand in front of what is left, which is such a text
pub record IsCounted (columns : ℕ) (text rest : List ℕ) (count : ℕ) : Type 0 where
  pub kept : Kept columns text rest count
  pub clear : IsClearText rest

as_many : (columns : ℕ) (row : List Field) → length row ≡ columns → result_err (checked_row columns (Ok row)) ≡ None
as_many columns row is = ap result_err (cond-true {A = Result (List Field) DataFault} (eqb (length row) columns) (Ok row) (Err (Fields (length row))) (eq-eqb _ _ is))

pub one_more : (columns : ℕ) (text rest behind : List ℕ) (count : ℕ) → 0 < length rest → length behind ≤ length rest - 1 → IsCounted columns text rest count
    → length (pieces (first_line rest)) ≡ columns → behind ≡ behind_line rest → IsCounted columns text behind (count + 1)
one_more columns text rest behind count some shorter so_far many is =
    let line : IsClearLine rest = clear_line rest some so_far.clear in
    let split : data_lines rest ≡ first_line rest ∷ data_lines behind = line.split ∙ ap (λ (xs : List ℕ). first_line rest ∷ data_lines xs) (sym is) in
    let row : List Field = map Some (pieces (first_line rest)) in
    let fits : length row ≡ columns = length-map (pieces (first_line rest)) Some ∙ many in
    let fine : result_err (checked_row columns (row_of (first_line rest))) ≡ None = ap (λ (r : _). result_err (checked_row columns r)) line.reads ∙ as_many columns row fits in
    record {
      kept = kept_step columns text rest count so_far.kept (first_line rest) behind split (omega arith) fine;
      clear = subst IsClearText (sym is) line.rest;
    }

pub nothing_left : (rest : List ℕ) → length rest ≤ 0 → data_lines rest ≡ []
nothing_left [] le = ap before_end_mark lines_nil
nothing_left (b ∷ rest) le = absurd (omega arith)
