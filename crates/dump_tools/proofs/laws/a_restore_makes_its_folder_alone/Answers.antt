use Rattle.restore_tools.specs.Written.{files_written as files_restored}
use Rattle.dump_tools.proofs.Staying.{stored_alone, stored_silent}
use Rattle.dump_tools.proofs.laws.a_restore_makes_its_folder_alone.Goals as goal

pub returns : goal.returns
returns c = record {
  files = λ folder report name texts apart. stored_alone (files_restored folder texts) report name apart;
  undone = λ folder report name. (tt, tt);
  printed = λ folder report texts. stored_silent (files_restored folder texts) report;
}
