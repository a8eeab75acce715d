use Rattle.std.proofs.Common.{sym, subst}
use Rattle.dump_tools.specs.Targets.{IsOutside}
use Rattle.tool_words.specs.declared.words.DumpAsked.{DumpAsked}
use Rattle.tool_words.specs.Messages.{teller_name}
use Rattle.clone_tools.specs.Due.{clone_due}
use Rattle.clone_tools.proofs.Telling.{untold_memory}
use Rattle.clone_tools.proofs.clone.pg_clone.Goals as goal

pub returns-in-Ok-clause-done : goal.returns-in-Ok-clause-done
returns-in-Ok-clause-done g c = c.clone_halves.ensures.done c.args.asked c.in-Ok.ensures

pub returns-in-Ok-clause-untold : goal.returns-in-Ok-clause-untold
returns-in-Ok-clause-untold g c = c.clone_halves.ensures.untold c.args.asked c.in-Ok.ensures

pub returns-in-Err-clause-untold : goal.returns-in-Err-clause-untold
returns-in-Err-clause-untold g c = λ tree left known. untold_memory c.args.teller (clone_due (teller_name c.args.teller) c.args.asked c.args.moment tree) _

-- the archive doesn't lie in the folder that is dumped
pub clone_halves-requires : goal.clone_halves-requires
clone_halves-requires g c = subst (λ (d : DumpAsked). IsOutside d.folder d.target) (sym c.in-Ok.ensures.dump) c.requires.source
