-- No fault stands in the rows so far, whose keys are seen.
use Rattle.std.proofs.Common.{◌≡◌, ◌+◌, take, drop}
use Rattle.cat_names.specs.Findings.{first_from}
use Rattle.cat_book.specs.Rules.{found, ending, fault_by}
use Rattle.cat_book.specs.Seen.{AreSeen}
use Rattle.cat_book.proofs.lines.check_lines.Given as goal

abbrev pub invariant-loop-row : goal.invariant-loop-row
invariant-loop-row g l = (fault_by g.T.Conditions.rules l.beside l.rows ≡ first_from (found g.T.Conditions.rules l.beside) (ending g.T.Conditions.rules l.beside) (take l.row-index l.rows) (drop l.row-index l.rows))
    × AreSeen g.T.Conditions.rules (take l.row-index l.rows) l.seen
    × (l.line ≡ l.row-index + 1)
