use Rattle.std.proofs.Common.{[], ◌∷◌, ap, ◌∙◌}
use Rattle.restore_tools.specs.Written.{files_written as files_restored}
use Rattle.restore_tools.specs.Due.{report_of as report_of_restore}
use Rattle.dump_tools.specs.Outputs.{Tells, all_performed}
use Rattle.dump_tools.proofs.Putting.{all_put}
use Rattle.dump_tools.proofs.laws.a_restore_leaves_its_folder.Goals as goal

pub returns : goal.returns
returns c = λ plan run before restored.
    ap (λ r. all_performed r.outputs before) restored.is
    ∙ all_put (files_restored plan.folder restored.texts) (Tells (report_of_restore plan) ∷ []) before.tree before.left before.printed before.told
