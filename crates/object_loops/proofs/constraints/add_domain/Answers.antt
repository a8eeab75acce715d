use Rattle.object_loops.proofs.Checks.{checks_good}
use Rattle.object_loops.proofs.constraints.add_domain.Goals as goal

pub returns : goal.returns
returns c = λ number fits. c.in_ok-add_checks.ensures number (checks_good c.args.path.now c.args.domain.now fits)
