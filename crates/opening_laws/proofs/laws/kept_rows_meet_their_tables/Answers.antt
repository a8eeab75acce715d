use Rattle.opening_laws.proofs.Keeping.{are_kept}
use Rattle.opening_laws.proofs.laws.kept_rows_meet_their_tables.Goals as goal

pub returns : goal.returns
returns c = λ texts opening rows named ids number current cat held well sound grows began own stand keeps.
    are_kept texts opening rows well named sound grows ids own began cat (record { roles = stand.cluster.roles; schemas = stand.cluster.schemas; relations = stand.relations; types = stand.types }) keeps
