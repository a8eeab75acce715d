use Rattle.dump_tools.specs.Runs.{read_by}
use Rattle.tool_words.specs.Words.{teller_of}
use Rattle.clone_tools.specs.Due.{call_due}
use Rattle.clone_tools.proofs.Left.{leaves}
use Rattle.clone_tools.proofs.laws.a_clone_leaves_what_its_dump_makes.Goals as goal

pub returns : goal.returns
returns c = λ words moment tree input first plan answer before after is whole known ends h.
    leaves (read_by words input) (teller_of words) (call_due words moment tree input) tree first plan answer before after is whole known ends h
