use Rattle.std.proofs.Common.{sym, ◌∙◌}
use Rattle.folder_io.specs.Folders.{bytes_of}
use Rattle.exports.proofs.Steps.{catalogue_read, export_read}
use Rattle.exports.proofs.Wholes.{whole}
use Rattle.exports.proofs.laws.exports_are_whole.Goals as goal

pub returns : goal.returns
returns c = λ folder tree export stands.
    let is = catalogue_read folder tree export.cat ((c.folders_stand_for_one_catalogue.ensures.read folder tree export.cat).1 stands) in
    let texts = c.folders_hold_their_rows.ensures folder (bytes_of folder tree) export.cat tree export.rows in (
      λ due. let found = whole folder (bytes_of folder tree) export.cat tree export (sym is ∙ due) in
          record { formed = found.0; texts = texts.0 found.1; rows = found.2 },
      λ all. is ∙ export_read folder (bytes_of folder tree) export.cat tree export.rows all.formed (texts.1 all.texts) all.rows,
    )
