-- What the code holds of a script that is to be run.
use Rattle.std.specs.Prelude.{◌≡◌, List, Some}
use Rattle.std.specs.List.{AllByRecursion}
use Rattle.cat_model.specs.Values.{Bytes}
use Rattle.cat_names.specs.Naming.{boot as boot_role}
use Rattle.cat_sound.specs.Fit.{IsFit}
use Rattle.ddl_read.specs.Spellings.{said as statements_in}
use Rattle.ddl_read.specs.located.Located.{Located}
use Rattle.sound_texts.specs.Grammar.{grammar}
use Rattle.clone_restores.specs.declared.scripts.ScriptWork.{ScriptWork}
use Rattle.clone_restores.specs.Due.{Restoration, script_made}

-- statements such as are read
abbrev pub AreFit : List Located → Type 0
AreFit statements = AllByRecursion (IsFit grammar) (statements_in statements)

-- the role is the opening's, and the statements are such as are read
pub record IsReadyScript (work : ScriptWork) : Type 0 where
  pub role : boot_role work.opening.cat ≡ Some work.boot
  pub fit : AreFit work.statements.items

abbrev pub script_plan : Bytes → Bytes → ScriptWork → Restoration
script_plan teller folder work = script_made teller folder work.statements.items work.opening work.boot
