use Rattle.std.proofs.Common.{refl}
use Rattle.patterns.specs.Reading.{marks_from, open_from, second_dot_from, fault_of}
use Rattle.command_line.specs.Spellings.{option_of_letter, option_of_name}
use Rattle.command_line.specs.Values.{number_up_to, value_fault}
use Rattle.command_line.specs.Reading.{words_read}
use Rattle.command_line.specs.Mentions.{last_of, values_of, other_of}
use Rattle.command_line.specs.Checks.{pg_dump_checks, pg_restore_checks, pg_dumpall_checks, pg_clone_checks, pg_gen_checks, checks, words_fault}
use Rattle.command_line.specs.Usage.{said_by, usage_of}
use Rattle.command_line.proofs.laws.the_definitions_meet_the_examples.Goals as goal

pub returns : goal.returns
unfolding marks_from open_from second_dot_from fault_of option_of_letter option_of_name number_up_to value_fault words_read last_of values_of other_of pg_dump_checks pg_restore_checks pg_dumpall_checks pg_clone_checks pg_gen_checks checks words_fault said_by usage_of
returns c = record {
  no_words = refl;
  no_tool = refl;
  values = refl;
  adds_up = refl;
  letters = refl;
  ends_options = refl;
  lone_dash = refl;
  bad_letter = refl;
  left_out = refl;
  tar = refl;
  value_of_a_flag = refl;
  bad_pattern = refl;
  no_workers = refl;
  many_workers = refl;
  no_value = refl;
  extra_word = refl;
  extra_first = refl;
  rows_and_schema = refl;
  no_folder = refl;
  no_target = refl;
  one_transaction = refl;
  from_input = refl;
  ignored_workers = refl;
  workers_of_a_script = refl;
  into_its_folder = refl;
}
