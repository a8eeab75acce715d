use Rattle.saved_folders.specs.Folders.{files_of}
use Rattle.dump_tools.proofs.Staying.{stored_alone, stored_silent}
use Rattle.dump_tools.proofs.laws.a_run_makes_its_folder_alone.Goals as goal

pub returns : goal.returns
returns c = record {
  files = λ folder report name texts apart. stored_alone (files_of folder texts) report name apart;
  printed = λ folder report texts. stored_silent (files_of folder texts) report;
}
