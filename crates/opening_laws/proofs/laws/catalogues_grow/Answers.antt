use Rattle.opening_laws.proofs.Grown.{statement_grows, run_grows}
use Rattle.opening_laws.proofs.laws.catalogues_grow.Goals as goal

pub returns-clause-step : goal.returns-clause-step
returns-clause-step c = statement_grows

pub returns-clause-run : goal.returns-clause-run
returns-clause-run c = run_grows
