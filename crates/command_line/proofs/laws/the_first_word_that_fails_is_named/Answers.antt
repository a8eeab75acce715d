use Rattle.command_line.specs.Reading.{Plain}
use Rattle.command_line.proofs.FirstFaults.{first_fault}
use Rattle.command_line.proofs.laws.the_first_word_that_fails_is_named.Goals as goal

pub returns : goal.returns
returns c = λ tool words fault e. first_fault tool words Plain 1 fault e
