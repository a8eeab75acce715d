use Rattle.std.proofs.Common.{arith}
use Rattle.std.proofs.lemmas.Grind.{common_steps}
use Rattle.schema_folders.proofs.Growing.{grown_more}
use Rattle.schema_folders.proofs.run.run_script.Goals as goal

pub loop-located-preserved : goal.loop-located-preserved
loop-located-preserved c = record {
  reported = grind (arith, common_steps);
  applied = grind (arith, common_steps);
  grown = grown_more c.args.schemas.now c.loop-located.schemas c.run_statement.new.schemas c.loop-located.invariant.grown c.in_ok-run_statement.ensures.grown;
}
