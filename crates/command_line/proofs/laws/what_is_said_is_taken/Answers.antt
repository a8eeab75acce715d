use Rattle.std.proofs.Common.{drop}
use Rattle.command_line.specs.Reading.{Plain}
use Rattle.command_line.specs.Usage.{said_by}
use Rattle.command_line.proofs.Completing.{words_taken}
use Rattle.command_line.proofs.laws.what_is_said_is_taken.Goals as goal

pub returns : goal.returns
unfolding said_by
returns c = λ tool words. words_taken tool (drop 1 words) Plain 1 tt
