use Rattle.copy_text.proofs.LawLemmas.{text_found, text_only}
use Rattle.copy_text.proofs.laws.reading_a_text_is_exact.Goals as goal

pub returns : goal.returns
returns c = λ rows text. (text_found rows text, text_only rows text)
