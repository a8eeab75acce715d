use Rattle.command_line.specs.declared.options.Opt.TheVariants as opt
use Rattle.command_line.specs.Commands.{sections_of}
use Rattle.command_line.specs.Mentions.{values_of}
use Rattle.command_line.specs.Steps.{left}
use Rattle.command_line.proofs.Adding.{sections_go_on, sections_end}
use Rattle.command_line.proofs.building.sections.Goals as goal

pub words-preserved : goal.words-preserved
words-preserved c =
    sections_go_on opt.Section c.words.sections c.add_section.new.sections c.in-Says.said (left c.words.reader) (left c.in-Says.next) (sections_of (values_of opt.Section (left c.args.reader))) c.in-Says.ensures c.in_ok-add_section.ensures c.words.invariant

pub returns : goal.returns
returns c = sections_end opt.Section c.words.sections (sections_of (values_of opt.Section (left c.args.reader))) c.step.result c.words.reader c.step.ensures c.in_default.not-Says c.words.invariant
