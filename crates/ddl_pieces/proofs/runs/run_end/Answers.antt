use Rattle.ddl_pieces.proofs.Common.{sym}
use Rattle.ddl_pieces.proofs.Scanning.{at_token, at_stop}
use Rattle.ddl_pieces.proofs.runs.run_end.Goals as goal

pub returns-in_default-2 : goal.returns-in_default-2
returns-in_default-2 c = rw c.end_of_run-in_default-2.ensures (at_stop _ _ _ _ _ _ _ _ c.tokens.invariant c.in-Some.ensures.read.0 (sym (rw c.in_default-2.is at c.in_ok-next.ensures)) (cc))

pub tokens-preserved : goal.tokens-preserved
tokens-preserved c = at_token _ _ _ _ _ _ _ _ c.tokens.invariant c.in-Some.ensures.read.0 (sym (rw c.in-Some-2.is at c.in_ok-next.ensures))
