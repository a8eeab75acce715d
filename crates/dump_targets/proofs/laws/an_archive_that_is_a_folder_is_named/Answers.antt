use Rattle.std.proofs.Common.{refl}
use Rattle.patterns.specs.Reading.{marks_from, open_from, second_dot_from, fault_of}
use Rattle.command_line.specs.Spellings.{option_of_letter, option_of_name}
use Rattle.command_line.specs.Values.{number_up_to, value_fault}
use Rattle.command_line.specs.Reading.{words_read}
use Rattle.command_line.specs.Mentions.{last_of, values_of, other_of}
use Rattle.command_line.specs.Checks.{pg_dump_checks, checks, words_fault}
use Rattle.command_line.specs.Usage.{said_by, command_from}
use Rattle.tool_words.specs.Words.{words_asked}
use Rattle.dump_targets.proofs.Saying.{words_name}
use Rattle.dump_targets.proofs.laws.an_archive_that_is_a_folder_is_named.Goals as goal

pub returns-clause-named : goal.returns-clause-named
returns-clause-named c = λ words asked e. words_name words asked e

pub returns-clause-unnamed : goal.returns-clause-unnamed
unfolding marks_from open_from second_dot_from fault_of option_of_letter option_of_name number_up_to value_fault words_read last_of values_of other_of pg_dump_checks checks words_fault said_by command_from words_asked
returns-clause-unnamed c = refl

pub returns-clause-printed : goal.returns-clause-printed
unfolding marks_from open_from second_dot_from fault_of option_of_letter option_of_name number_up_to value_fault words_read last_of values_of other_of pg_dump_checks checks words_fault said_by command_from words_asked
returns-clause-printed c = refl
