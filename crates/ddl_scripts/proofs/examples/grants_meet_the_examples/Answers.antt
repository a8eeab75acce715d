use Rattle.ddl_scripts.proofs.Common.{refl}
use Rattle.ddl_scripts.proofs.Computing.{reads}
use Rattle.ddl_scripts.proofs.examples.grants_meet_the_examples.Goals as goal

pub returns : goal.returns
unfolding reads
returns c = record { all = refl; each = refl; some = refl; public = refl; revoked = refl; no_kind = refl; other_kind = refl; privileges = refl; role_revoked = refl; role = refl; options = refl; named_select = refl; quoted_right = refl; order = refl; no_option = refl; long = refl }
