use Rattle.relation_loops.proofs.types.owned_row.Goals as goal

pub returns-in_ok-enum_at-in-Enum : goal.returns-in_ok-enum_at-in-Enum
returns-in_ok-enum_at-in-Enum c = λ fits. rw c.in-Enum.is (c.in_ok-enum_at-in-Enum.ensures _)

pub returns-in_ok-domain_at-in-Domain : goal.returns-in_ok-domain_at-in-Domain
returns-in_ok-domain_at-in-Domain c = λ fits. rw c.in-Domain.is (c.in_ok-domain_at-in-Domain.ensures (rw c.in-Domain.is at fits))
