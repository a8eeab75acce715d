use Rattle.std.proofs.Common.{drop}
use Rattle.command_line.specs.Reading.{Plain}
use Rattle.command_line.specs.Usage.{said_by}
use Rattle.command_line.proofs.Completing.{words_taken}
use Rattle.command_line.proofs.Keeping.{patterns_kept}
use Rattle.command_line.proofs.laws.each_pattern_is_kept.Goals as goal

pub returns : goal.returns
unfolding said_by
returns c = λ tool option words t. patterns_kept tool option (said_by tool words) t (words_taken tool (drop 1 words) Plain 1 tt)
