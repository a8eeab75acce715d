use Rattle.column_numbers.specs.Numbers.{number_of}
use Rattle.whole_export.proofs.parts.part_tables.Goals as goal

pub returns : goal.returns
returns c = λ all owned. record {
  defaults = c.in_ok-defaults.ensures all;
  constraints = c.in_ok-constraints.ensures (number_of c.args.numbers.now) all;
  indexes = c.in_ok-indexes.ensures all;
  sequences = c.in_ok-sequences.ensures owned;
  bodies = c.in_ok-bodies.ensures all;
  comments = c.in_ok-comments.ensures all;
}
