use Rattle.ddl_laws.proofs.Respelled.{read_is_writable}
use Rattle.ddl_laws.specs.Spellings.{said}
use Rattle.cat_sound.proofs.Statements.{run-keeps}
use Rattle.sound_texts.specs.Grammar.{grammar}
use Rattle.sound_texts.proofs.Writable.{all_fit}
use Rattle.sound_texts.proofs.laws.scripts_keep.Goals as goal

pub returns : goal.returns
returns c = λ boot text found named e sound there. run-keeps grammar boot (said found) named sound (all_fit (said found) (read_is_writable text found e)) there
