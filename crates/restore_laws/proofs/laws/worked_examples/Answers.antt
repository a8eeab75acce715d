use Rattle.std.proofs.Common.{refl}
use Rattle.ddl_grammar.proofs.Spelled.{spelled_out}
use Rattle.entry_choices.specs.Choices.{section_among, is_taken_among, wanted}
use Rattle.fmt_text.specs.Owners.{kind_of, name_in, path_of, owned_object, owner_part}
use Rattle.fmt_text.specs.Parts.{about, body, part}
use Rattle.fmt_text.specs.Script.{versions, session, script_end}
use Rattle.archive_scripts.specs.Scripts.{head_text, custom_script}
use Rattle.restore_laws.proofs.laws.worked_examples.Goals as goal

pub returns : goal.returns
unfolding spelled_out section_among is_taken_among wanted kind_of name_in path_of owned_object owner_part about body part versions session script_end head_text custom_script
returns c = record {
  schema_only = refl;
  data_only = refl;
}
