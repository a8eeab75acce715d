use Rattle.dump_restorable.specs.Dumped.{all_taken}
use Rattle.dump_restorable.proofs.laws.scripts_of_dumps_are_plain_dumps.Goals as goal

pub returns-clause-output : goal.returns-clause-output
returns-clause-output c = λ folder select cat tree now head plain dumping owners is versions format.
    c.dumps_to_output_are_restored.ensures tree now head plain dumping.entries dumping.files (all_taken owners) (c.dumps_of_folders_are_restorable.ensures folder select cat tree head dumping owners is) versions format

pub returns-clause-file : goal.returns-clause-file
returns-clause-file c = λ folder select cat tree now head plain dumping owners name is versions format short.
    c.dumps_to_files_are_restored.ensures tree now name head plain dumping.entries dumping.files (all_taken owners) (c.dumps_of_folders_are_restorable.ensures folder select cat tree head dumping owners is) versions format short

pub returns-clause-folder : goal.returns-clause-folder
returns-clause-folder c = λ folder select cat tree before now head plain dumping owners written target is versions format ends few.
    c.dumps_to_folders_are_restored.ensures.unasked tree before now written target head plain dumping.entries dumping.files (all_taken owners) (c.dumps_of_folders_are_restorable.ensures folder select cat tree head dumping owners is) versions format ends few
