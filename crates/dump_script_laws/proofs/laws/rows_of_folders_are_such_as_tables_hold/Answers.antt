use Rattle.cat_rows.specs.Catalogues.{rows_in}
use Rattle.dump_script_laws.proofs.laws.rows_of_folders_are_such_as_tables_hold.Goals as goal

pub returns : goal.returns
returns c = λ folder tree cat stands table. let h = stands.tables table in c.read_rows_can_be_written.ensures table h.text (rows_in table cat) h.reads
