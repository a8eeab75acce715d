use Rattle.stmt_laws.proofs.Objects.{TextLaws}
use Rattle.toc_laws.proofs.Dumps.{Laws}
use Rattle.toc_laws.proofs.Statements.{object_says_so, rows_say_so, column_says, comment_says, grants_say}
use Rattle.toc_laws.proofs.laws.entries_say_their_statements.Goals as goal

pub returns : goal.returns
returns c =
    let t = c.texts_of_rows_can_be_written.ensures in
    let text : TextLaws = record { types = t.types; defaults = t.defaults; views = t.views; indexes = t.indexes; constraints = t.constraints; checks = t.checks } in
    let spelled = c.what_can_be_written_is_spelled.ensures in
    let laws : Laws = record { spelled = spelled; text = text; grants = c.grants_can_be_written.ensures } in
    let laid = c.laid_out_statements_are_read.ensures in
    record {
      objects = object_says_so laid laws;
      rows = rows_say_so laid laws;
      columns = column_says laid laws;
      comments = comment_says laid spelled;
      grants = grants_say laid spelled;
    }
