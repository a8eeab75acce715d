use Rattle.std.proofs.Common.{◌∙◌, arith}
use Rattle.toc_parts.specs.Fields.{number_in}
use Rattle.toc_parts.proofs.Decimals.{parsed}
use Rattle.toc_parts.proofs.reading.number_in.Goals as goal

pub returns-then-are_digits : goal.returns-then-are_digits
returns-then-are_digits c = c.ok.ensures.value ∙ parsed c.args.text.now c.parse.result (cc) c.parse.ensures.value.0

pub returns-else-are_digits : goal.returns-else-are_digits
unfolding number_in
returns-else-are_digits c = grind arith
