use Rattle.std.proofs.Common.{refl}
use Rattle.ddl_laws.proofs.Computing.{reads}
use Rattle.fmt_text.specs.Owners.{kind_of, name_in, path_of, owned_object}
use Rattle.fmt_text.specs.Parts.{body}
use Rattle.script_laws.specs.Scripts.{entry_statements}
use Rattle.script_laws.proofs.laws.entries_meet_the_examples.Goals as goal

pub returns : goal.returns
unfolding reads kind_of name_in path_of owned_object body entry_statements
returns c = record { schema_owned = refl; schema_alone = refl; table_owned = refl; column = refl; rows = refl; setting = refl }
