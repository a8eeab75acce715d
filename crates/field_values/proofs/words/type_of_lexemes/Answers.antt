use Rattle.std.proofs.Common.{arith}
use Rattle.field_values.proofs.Lengths.{two_or_three, more_than_five}
use Rattle.field_values.proofs.words.type_of_lexemes.Goals as goal

pub returns-in_default-2 : goal.returns-in_default-2
returns-in_default-2 c = two_or_three c.args.lexemes.now (omega arith) (omega arith)

pub returns-in_default-6 : goal.returns-in_default-6
returns-in_default-6 c = more_than_five c.args.lexemes.now (omega arith)
