use Rattle.ddl_scripts.proofs.Common.{refl}
use Rattle.ddl_scripts.proofs.Computing.{reads}
use Rattle.ddl_scripts.proofs.examples.the_definitions_meet_the_examples.Goals as goal

pub returns : goal.returns
unfolding reads
returns c = record { schema = refl; variant = refl; empty = refl; owner = refl; incomplete = refl; unknown = refl; unclosed = refl; least = refl; no_name = refl; long_name = refl; setting = refl; no_value = refl; other_bracket = refl; check = refl; labels = refl; last_comma = refl; column = refl; table = refl; null = refl; late_column = refl; domain = refl; column_of_sequence = refl; view = refl; replaced_view = refl; index = refl; unique_index = refl; no_bracket = refl; value = refl; no_path = refl; long_path = refl }
