use Rattle.ddl_scripts.proofs.Common.{refl}
use Rattle.ddl_scripts.proofs.Computing.{reads}
use Rattle.ddl_scripts.proofs.examples.sequences_meet_the_examples.Goals as goal

pub returns : goal.returns
unfolding reads
returns c = record { written = refl; bare = refl; mixed = refl; given = refl; limits = refl; large = refl; small = refl; fraction = refl; two_usual = refl; two_bounds = refl; third_no = refl; two_types = refl; bigint = refl; no_cycle = refl; without_with = refl }
