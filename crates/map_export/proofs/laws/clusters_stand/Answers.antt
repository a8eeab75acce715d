use Rattle.map_export.proofs.Cluster.{roles_stand, members_stand, databases_stand, schemas_stand}
use Rattle.map_export.proofs.laws.clusters_stand.Goals as goal

pub returns : goal.returns
returns c = λ named oids current cat own roles members databases schemas. record {
  roles = roles_stand named oids own cat.pg_authid roles;
  members = members_stand named oids own cat.pg_auth_members members;
  databases = databases_stand named oids own current cat.pg_database databases;
  schemas = schemas_stand named oids own cat.pg_namespace schemas;
}
