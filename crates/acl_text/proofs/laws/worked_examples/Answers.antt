use Rattle.std.proofs.Common.{refl}
use Rattle.std.specs.Str.{is_utf8, chars}
use lib.Utf8.{encode}
use Rattle.acl_text.specs.Acls.{acl_of, elements_from, items_of, item_of, rights_from, name_at, quoted_name, spell_acl, spell_element, spell_name}
use Rattle.acl_text.proofs.laws.worked_examples.Goals as goal

pub returns : goal.returns
unfolding acl_of elements_from items_of item_of rights_from name_at quoted_name spell_acl spell_element spell_name is_utf8 chars encode
returns c = record {
  lists = record {
    empty = refl;
    table = refl;
    option = refl;
    any_order = refl;
    no_rights = refl;
    in_quotes = refl;
    quoted_name = refl;
  };
  others = record {
    nothing = refl;
    no_end = refl;
    more_behind = refl;
    last_comma = refl;
    blank = refl;
    other_letter = refl;
    lone_star = refl;
    two_stars = refl;
    no_grantor = refl;
    no_slash = refl;
    behind_quotes = refl;
  };
  written = record { empty = refl; table = refl; quoted_name = refl };
}
