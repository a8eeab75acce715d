use Rattle.ddl_scripts.proofs.Common.{refl}
use Rattle.ddl_scripts.proofs.Computing.{reads}
use Rattle.ddl_scripts.proofs.examples.altered_tables_meet_the_examples.Goals as goal

pub returns : goal.returns
unfolding reads
returns c = record { check = refl; bare = refl; schema = refl; both = refl; owner = refl; only_owner = refl; default = refl; not_null = refl; second = refl; primary = refl; unique = refl; no_column = refl; undue = refl; foreign = refl; actions = refl; kept = refl; late_update = refl; second_update = refl; update_columns = refl; no_parents = refl; no_columns = refl; long_column = refl }
