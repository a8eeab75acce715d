use Rattle.stmt_laws.proofs.Objects.{TextLaws}
use Rattle.toc_laws.proofs.Dumps.{Laws}
use Rattle.dump_script_laws.proofs.Whole.{told_by_rows}
use Rattle.dump_script_laws.proofs.laws.scripts_of_well_formed_catalogues_say_what_rows_tell.Goals as goal

pub returns : goal.returns
returns c =
    let t = c.texts_of_rows_can_be_written.ensures in
    let text : TextLaws = record { types = t.types; defaults = t.defaults; views = t.views; indexes = t.indexes; constraints = t.constraints; checks = t.checks } in
    let laws : Laws = record { spelled = c.what_can_be_written_is_spelled.ensures; text = text; grants = c.grants_can_be_written.ensures } in
    told_by_rows c.scripts_of_well_formed_catalogues_read.ensures c.laid_out_statements_are_read.ensures laws c.tests_are_exact.ensures.name
