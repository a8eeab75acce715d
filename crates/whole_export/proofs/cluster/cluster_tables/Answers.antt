use Rattle.whole_export.proofs.cluster.cluster_tables.Goals as goal

pub returns : goal.returns
returns c = record { roles = c.in_ok-roles.ensures; members = c.in_ok-members.ensures; databases = c.in_ok-databases.ensures; schemas = c.in_ok-schemas.ensures }
