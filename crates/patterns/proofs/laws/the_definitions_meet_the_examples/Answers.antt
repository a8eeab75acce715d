use Rattle.std.proofs.Common.{refl}
use Rattle.patterns.specs.Matching.{hits}
use Rattle.patterns.specs.Reading.{marks_from, open_from, second_dot_from, fault_of, pattern_of}
use Rattle.patterns.proofs.laws.the_definitions_meet_the_examples.Goals as goal

pub returns : goal.returns
unfolding hits marks_from open_from second_dot_from fault_of pattern_of
returns c = record {
  both_parts = refl;
  one_is_one = refl;
  one_is_a_character = refl;
  not_two = refl;
  many_are_none = refl;
  last_place = refl;
  other_schema = refl;
  dot_in_quotes = refl;
  star_in_quotes = refl;
  two_quotes = refl;
  unclosed = refl;
  unclosed_behind_two = refl;
  unclosed_first = refl;
  second_dot = refl;
  no_text = refl;
  quotes_alone = refl;
  no_name = refl;
  no_schema = refl;
  pattern = refl;
}
