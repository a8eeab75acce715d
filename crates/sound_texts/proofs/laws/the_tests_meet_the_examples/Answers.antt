use Rattle.std.proofs.Common.{refl}
use Rattle.ddl_laws.proofs.Computing.{reads}
use Rattle.sound_texts.specs.Tests.{is_run, is_bracketed, is_type_text}
use Rattle.sound_texts.proofs.laws.the_tests_meet_the_examples.Goals as goal

pub returns-clause-types : goal.returns-clause-types
unfolding reads is_run is_bracketed is_type_text
returns-clause-types c = record {
  words = refl;
  array = refl;
  as_a_path = refl;
  no_name = refl;
  blank = refl;
  behind = refl;
  comment = refl;
  path_as_words = refl;
  semicolon = refl;
  open_bracket = refl;
  empty = refl;
}

pub returns-clause-expressions : goal.returns-clause-expressions
unfolding reads is_run is_bracketed is_type_text
returns-clause-expressions c = record {
  «default» = refl;
  inner_comment = refl;
  blank = refl;
  not_null = refl;
  two = refl;
  unclosed = refl;
  empty = refl;
  body = refl;
  body_without_semicolon = refl;
  open_bracket = refl;
}

pub returns-clause-constraints : goal.returns-clause-constraints
unfolding reads is_run is_bracketed is_type_text
returns-clause-constraints c = record {
  primary = refl;
  deferred = refl;
  no_column = refl;
  undue = refl;
  foreign_key = refl;
  no_parent = refl;
  check = refl;
  no_check = refl;
}

pub returns-clause-indexes : goal.returns-clause-indexes
unfolding reads is_run is_bracketed is_type_text
returns-clause-indexes c = record {
  one = refl;
  without_bracket = refl;
  no_method = refl;
  no_name = refl;
}
