-- The report so far and that of the statements to come are the whole one, and so with the catalogue.
use Rattle.std.proofs.Common.{◌≡◌, ◌++◌, drop}
use Rattle.schema_folders.specs.Run.{catalogue_after, refusals}
use Rattle.clone_restores.specs.Lines.{report}
use Rattle.clone_restores.proofs.running.apply_statements.Given as goal

abbrev pub invariant-loop-located : goal.invariant-loop-located
invariant-loop-located l = record {
  reported : l.out.items ++ report l.teller (refusals l.engine.boot (drop l.located-index l.statements) l.engine.named) ≡ l.fn.out.items ++ report l.teller (refusals l.fn.engine.boot l.statements l.fn.engine.named);
  applied : catalogue_after l.engine.boot (drop l.located-index l.statements) l.engine.named ≡ catalogue_after l.fn.engine.boot l.statements l.fn.engine.named;
}
