use Rattle.std.proofs.Common.{refl}
use Rattle.std.specs.Fmt.{char_count, digits, padded_integral}
use Rattle.entry_choices.specs.Choices.{section_among, is_taken_among, wanted}
use Rattle.list_files.specs.Edits.{edited}
use Rattle.list_files.specs.Lists.{list_head, line_of, list_text}
use Rattle.list_files.proofs.laws.worked_lists.Goals as goal

pub returns : goal.returns
unfolding char_count digits padded_integral section_among is_taken_among wanted edited list_head line_of list_text
returns c = record {
  list = refl;
  strange = refl;
  chosen = refl;
  all = refl;
}
