use Rattle.std.proofs.Common.{◌≡◌, ◌++◌, drop}
use Rattle.schema_folders.specs.Naming.{boot, named}
use Rattle.tool_words.specs.Messages.{report}
use Rattle.schema_folders.specs.Run.{catalogue_after, refusals, Grown}
use Rattle.schema_folders.proofs.run.run_script.Given as goal

-- the report so far and that of the statements to come are the whole one, and so with the catalogue
abbrev pub invariant-loop-located : goal.invariant-loop-located
invariant-loop-located l = record {
  reported : l.text.items ++ report (refusals boot (drop l.located-index l.statements) (named l.schemas)) ≡ report (refusals boot l.statements (named l.fn.schemas));
  applied : catalogue_after boot (drop l.located-index l.statements) (named l.schemas) ≡ catalogue_after boot l.statements (named l.fn.schemas);
  grown : Grown l.fn.schemas l.schemas;
}
