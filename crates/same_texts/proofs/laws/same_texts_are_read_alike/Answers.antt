use Rattle.std.proofs.Common.{◌∙◌}
use Rattle.std.proofs.lemmas.List.Elements.{recursion_from_All}
use Rattle.folder_io.specs.declared.file.ExportFile.TheVariants.{Table}
use Rattle.folder_io.specs.Folders.{all_tables}
use Rattle.table_rows.specs.Tables.{table_oids}
use Rattle.same_texts.specs.Alike.{HasSame, IsData}
use Rattle.same_texts.proofs.Reading.{same_catalogue, same_bytes, same_rows}
use Rattle.same_texts.proofs.laws.same_texts_are_read_alike.Goals as goal

pub returns-clause-catalogue : goal.returns-clause-catalogue
returns-clause-catalogue c = λ first second tree cat rows same.
    same_catalogue first second tree same.marker (recursion_from_All (λ table. HasSame first second tree (Table table)) all_tables same.tables)

pub returns-clause-bytes : goal.returns-clause-bytes
returns-clause-bytes c = λ first second tree cat rows same.
    same_bytes first second tree same.marker (recursion_from_All (λ table. HasSame first second tree (Table table)) all_tables same.tables)

pub returns-clause-rows : goal.returns-clause-rows
returns-clause-rows c = λ first second tree cat rows used same read.
    same_rows first second tree used cat rows ((c.folders_hold_their_rows.ensures first used cat tree rows).0 read) (recursion_from_All (IsData second tree rows) (table_oids cat) same.data_files) ∙ read
