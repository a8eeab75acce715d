use Rattle.std.proofs.Common.{◌≡◌, ◌≢◌, ℕ, List, Result, Ok, Err, subst}
use Rattle.std.specs.Prelude.{IfOk}
use Rattle.std.specs.List.{All}
use Rattle.copy_text.specs.declared.fault.CopyFault.{CopyFault}
use Rattle.copy_text.specs.declared.fault.ReadRowError.{ReadRowError}
use Rattle.copy_text.specs.declared.fault.ReadRowError.TheVariants as errors
use Rattle.copy_text.specs.Marks.{newline}
use Rattle.copy_text.specs.Rows.{Field, SpellsRow}
use Rattle.copy_text.specs.Reading.{Gives, row_of}
use Rattle.copy_text.proofs.LawLemmas.{row_found, row_only, fault_found, fault_only}
use Rattle.copy_text.proofs.reading.read_row.Goals as goal

found_ok : (r : Result (List Field) ReadRowError) (line : List ℕ) → All (λ b. b ≢ newline) line → Gives (λ (row : List Field). row) r (row_of line) → IfOk r (λ row. SpellsRow row line)
found_ok (Ok row) line one_line given = row_found row line one_line given
found_ok (Err e) line one_line given = tt

gave : (r : Result (List Field) ReadRowError) (f : CopyFault) (read : Result (List Field) CopyFault) → Gives (λ (row : List Field). row) r read → r ≡ Err (errors.Fault f) → read ≡ Err f
gave r f read given is = subst (λ (x : Result (List Field) ReadRowError). Gives (λ (row : List Field). row) x read) is given

pub returns-clause-found : goal.returns-clause-found
returns-clause-found c = found_ok c.read_fields.result c.args.line.now c.requires c.read_fields.ensures

pub returns-clause-only : goal.returns-clause-only
returns-clause-only c = λ row spelled.
    subst (λ (read : Result (List Field) CopyFault). Gives (λ (x : List Field). x) c.read_fields.result read) (row_only row c.args.line.now spelled) c.read_fields.ensures

pub returns-clause-fault : goal.returns-clause-fault
returns-clause-fault c = λ f is. fault_found c.args.line.now f (gave c.read_fields.result f (row_of c.args.line.now) c.read_fields.ensures is)

pub returns-clause-refused : goal.returns-clause-refused
returns-clause-refused c = λ f first.
    subst (λ (read : Result (List Field) CopyFault). Gives (λ (x : List Field). x) c.read_fields.result read) (fault_only c.args.line.now f first) c.read_fields.ensures
