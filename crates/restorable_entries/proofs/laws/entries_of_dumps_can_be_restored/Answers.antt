use Rattle.stmt_laws.proofs.Objects.{TextLaws}
use Rattle.toc_laws.proofs.Dumps.{Laws}
use Rattle.restorable_entries.proofs.Archived.{planned_due}
use Rattle.restorable_entries.proofs.laws.entries_of_dumps_can_be_restored.Goals as goal

pub returns : goal.returns
returns c =
    let t = c.texts_of_rows_can_be_written.ensures in
    let text : TextLaws = record { types = t.types; defaults = t.defaults; views = t.views; indexes = t.indexes; constraints = t.constraints; checks = t.checks } in
    let laws : Laws = record { spelled = c.what_can_be_written_is_spelled.ensures; text = text; grants = c.grants_can_be_written.ensures } in
    planned_due c.laid_out_statements_are_read.ensures laws
