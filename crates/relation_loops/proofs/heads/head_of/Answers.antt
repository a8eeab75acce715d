use Rattle.std.proofs.Common.{sym}
use Rattle.relation_loops.proofs.heads.head_of.Goals as goal

pub returns : goal.returns
returns c = λ k is. record { oid = is; schema = sym c.in_ok-within.ensures; owner = sym c.in_ok-by.ensures; rights = c.in_ok-acl_of.ensures }
