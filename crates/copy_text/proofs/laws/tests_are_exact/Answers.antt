use Rattle.std.proofs.lemmas.Str.{IsUtf8-from_is_utf8, is_utf8-from_IsUtf8}
use Rattle.copy_text.proofs.TextLemmas.{name_from_test, test_from_name}
use Rattle.copy_text.proofs.laws.tests_are_exact.Goals as goal

pub returns : goal.returns
returns c = record {
  name = λ bytes. (name_from_test bytes, test_from_name bytes);
  text = λ bytes. (IsUtf8-from_is_utf8 bytes, is_utf8-from_IsUtf8 bytes);
}
