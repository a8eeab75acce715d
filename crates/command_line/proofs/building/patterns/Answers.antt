use Rattle.command_line.specs.Commands.{patterns_of}
use Rattle.command_line.specs.Mentions.{values_of}
use Rattle.command_line.specs.Steps.{left}
use Rattle.command_line.proofs.Adding.{patterns_go_on, patterns_end}
use Rattle.command_line.proofs.building.patterns.Goals as goal

pub words-preserved : goal.words-preserved
words-preserved c =
    patterns_go_on c.args.option c.words.patterns c.add_pattern.new.patterns c.in-Says.said (left c.words.reader) (left c.in-Says.next) (patterns_of (values_of c.args.option (left c.args.reader))) c.in-Says.ensures c.in_ok-add_pattern.ensures c.words.invariant

pub returns : goal.returns
returns c = patterns_end c.args.option c.words.patterns (patterns_of (values_of c.args.option (left c.args.reader))) c.step.result c.words.reader c.step.ensures c.in_default.not-Says c.words.invariant
