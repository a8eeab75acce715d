use Rattle.stmt_laws.proofs.Objects.{TextLaws, own_can, column_can}
use Rattle.stmt_laws.proofs.laws.statements_of_objects_can_be_written.Goals as goal

pub returns : goal.returns
returns c =
    let t = c.texts_of_rows_can_be_written.ensures in
    let laws : TextLaws = record { types = t.types; defaults = t.defaults; views = t.views; indexes = t.indexes; constraints = t.constraints; checks = t.checks } in
    record { own = own_can laws; owned = column_can laws }
