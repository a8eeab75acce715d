use Rattle.ddl_laws.proofs.Respelled.{read_is_writable}
use Rattle.ddl_laws.specs.Spellings.{said}
use Rattle.sound_texts.proofs.Writable.{all_fit}
use Rattle.sound_texts.proofs.laws.statements_that_are_read_are_fit.Goals as goal

pub returns : goal.returns
returns c = λ text found e. all_fit (said found) (read_is_writable text found e)
