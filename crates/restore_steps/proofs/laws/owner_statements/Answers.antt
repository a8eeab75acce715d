use Rattle.std.proofs.Common.{refl}
use Rattle.std.specs.Str.{is_utf8, chars}
use Rattle.std.proofs.Math.Utf8.{encode}
use Rattle.fmt_text.specs.Owners.{kind_of, name_in, path_of, owned_object}
use Rattle.restore_steps.specs.Statements.{owner_statement}
use Rattle.restore_steps.proofs.laws.owner_statements.Goals as goal

pub returns : goal.returns
unfolding owner_statement owned_object path_of name_in kind_of is_utf8 chars encode
returns c = record { schema = refl; without = refl; none = refl; in_schema = refl }
