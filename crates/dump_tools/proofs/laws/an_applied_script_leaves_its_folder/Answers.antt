use Rattle.std.proofs.Common.{[], ◌∷◌, ap, ◌∙◌}
use Rattle.schema_folders.specs.Folder.{files_written}
use Rattle.dump_tools.specs.Due.{report_of}
use Rattle.dump_tools.specs.Outputs.{Tells, all_performed}
use Rattle.dump_tools.proofs.Putting.{all_put}
use Rattle.dump_tools.proofs.laws.an_applied_script_leaves_its_folder.Goals as goal

pub returns : goal.returns
returns c = λ plan run before applied.
    ap (λ r. all_performed r.outputs before) applied.is
    ∙ all_put (files_written plan.folder applied.text) (Tells (report_of plan) ∷ []) before.tree before.left before.printed before.told
