use Rattle.dump_tools.proofs.Scripting.{input_taken, input_part}
use Rattle.dump_tools.proofs.scripts.read_source.Goals as goal

pub returns-in-Input-clause-taken : goal.returns-in-Input-clause-taken
returns-in-Input-clause-taken g c = input_taken (λ text. text.items) c.read_input.result c.args.script.now _ _ c.in-Input.is c.read_input.ensures.due c.read_input.ensures.whole c.read_input.ensures.part

pub returns-in-Input-clause-part : goal.returns-in-Input-clause-part
returns-in-Input-clause-part g c = input_part c.args.script.now _ _ c.in-Input.is c.read_input.ensures.part
