use Rattle.std.proofs.Common.{refl}
use Rattle.list_files.specs.Edits.{edited}
use Rattle.list_files.proofs.laws.worked_edits.Goals as goal

pub returns : goal.returns
unfolding edited
returns c = record {
  edit = refl;
  unknown = refl;
  no_number = refl;
  blanks = refl;
  carriage_return = refl;
  past_32_bits = refl;
  empty = refl;
}
