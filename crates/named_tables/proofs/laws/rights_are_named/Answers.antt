use Rattle.named_tables.proofs.Acls.{same_grants}
use Rattle.named_tables.proofs.laws.rights_are_named.Goals as goal

pub returns : goal.returns
returns c = λ kind owner grants acl items apart is. same_grants kind owner grants acl (record { items = items; apart = apart }) is
