use Rattle.ddl_scripts.proofs.Common.{refl}
use Rattle.ddl_scripts.proofs.Computing.{reads}
use Rattle.ddl_scripts.proofs.examples.copies_and_lines_meet_the_examples.Goals as goal

pub returns : goal.returns
unfolding reads
returns c = record { rows = refl; columns = refl; behind = refl; cut_short = refl; no_rows = refl; same_line = refl; no_bracket = refl; no_semicolon = refl; connect = refl; passed = refl; unknown = refl; empty_name = refl; long_name = refl; within = refl }
