use Rattle.folder_io.proofs.Standing.{read_stands, stands_read}
use Rattle.folder_io.proofs.SameRows.{same_catalogue}
use Rattle.folder_io.proofs.laws.folders_stand_for_one_catalogue.Goals as goal

pub returns : goal.returns
returns c = record {
  read = λ folder tree cat. (read_stands folder tree cat, stands_read folder tree cat);
  one = same_catalogue;
}
