use Rattle.std.proofs.Common.{refl}
use Rattle.model_laws.specs.Examples.{postgres}
use Rattle.model_laws.specs.Runs.{empty_cluster, run_one, run_two, run_three, run_four}
use Rattle.cat_sound.specs.Examples.{all_good}
use Rattle.cat_sound.proofs.Opening.{opening_sound, boot_is_there, all_fit}
use Rattle.cat_sound.proofs.Statements.{run-keeps}
use Rattle.cat_sound.proofs.examples.what_runs_leave_is_sound.Goals as goal

pub returns : goal.returns
returns c = record {
  one = run-keeps all_good postgres run_one empty_cluster (opening_sound all_good) (all_fit run_one refl) boot_is_there;
  two = run-keeps all_good postgres run_two empty_cluster (opening_sound all_good) (all_fit run_two refl) boot_is_there;
  three = run-keeps all_good postgres run_three empty_cluster (opening_sound all_good) (all_fit run_three refl) boot_is_there;
  four = run-keeps all_good postgres run_four empty_cluster (opening_sound all_good) (all_fit run_four refl) boot_is_there;
}
