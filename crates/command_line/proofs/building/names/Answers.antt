use Rattle.command_line.specs.Mentions.{values_of}
use Rattle.command_line.specs.Steps.{left}
use Rattle.command_line.proofs.Adding.{names_go_on, names_end}
use Rattle.command_line.proofs.building.names.Goals as goal

pub words-preserved : goal.words-preserved
words-preserved c =
    names_go_on c.args.option c.words.names c.add_name.new.names c.in-Says.said (left c.words.reader) (left c.in-Says.next) (values_of c.args.option (left c.args.reader)) c.in-Says.ensures c.in_ok-add_name.ensures c.words.invariant

pub returns : goal.returns
returns c = names_end c.args.option c.words.names (values_of c.args.option (left c.args.reader)) c.step.result c.words.reader c.step.ensures c.in_default.not-Says c.words.invariant
