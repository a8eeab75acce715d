use Rattle.cat_names.specs.Naming.{cluster_entries}
use Rattle.named_tables.specs.Kinds.{of_cluster}
use Rattle.named_tables.proofs.Cluster.{cluster_stands}
use Rattle.named_tables.proofs.Entries.{entries_stand}
use Rattle.named_tables.proofs.laws.clusters_are_named.Goals as goal

pub returns : goal.returns
returns c = λ texts named oids current cat sound own are. entries_stand named of_cluster (cluster_entries cat) (cluster_stands texts named oids current cat sound own are)
