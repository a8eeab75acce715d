use Rattle.std.proofs.Common.{refl}
use Rattle.ddl_grammar.proofs.Spelled.{spelled_out}
use Rattle.fmt_text.specs.Owners.{kind_of, name_in, path_of, owned_object, owner_part}
use Rattle.fmt_text.specs.Parts.{about, body, part}
use Rattle.fmt_text.proofs.laws.worked_examples.Goals as goal

pub returns : goal.returns
unfolding spelled_out kind_of name_in path_of owned_object owner_part about body part
returns c = record {
  with_owner = refl;
  without_owner = refl;
  quoted = refl;
  no_owner = refl;
  rows = refl;
  no_part = refl;
}
