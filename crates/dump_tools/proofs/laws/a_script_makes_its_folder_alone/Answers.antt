use Rattle.schema_folders.specs.Folder.{files_written}
use Rattle.dump_tools.proofs.Staying.{folder_alone, stored_silent}
use Rattle.dump_tools.proofs.laws.a_script_makes_its_folder_alone.Goals as goal

pub returns : goal.returns
returns c = record { files = folder_alone; printed = λ folder namespaces report. stored_silent (files_written folder namespaces) report }
