use Rattle.stmt_laws.proofs.Objects.{TextLaws}
use Rattle.toc_laws.proofs.Dumps.{Laws, all_stated}
use Rattle.toc_laws.proofs.laws.scripts_of_dumps_read_as_their_statements.Goals as goal

pub returns : goal.returns
returns c =
    let t = c.texts_of_rows_can_be_written.ensures in
    let laws : TextLaws = record { types = t.types; defaults = t.defaults; views = t.views; indexes = t.indexes; constraints = t.constraints; checks = t.checks } in
    let all : Laws = record { spelled = c.what_can_be_written_is_spelled.ensures; text = laws; grants = c.grants_can_be_written.ensures } in
    λ cat select order head entries owners dump is rows server dumper.
    c.scripts_read_as_their_statements.ensures head entries owners server dumper (all_stated all cat select order entries dump is rows)
