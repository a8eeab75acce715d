use Rattle.std.proofs.Common.{◌≡◌, Some, refl, sym, ap, subst, rules}
use Rattle.std.specs.Option.{option_and_then}
use Rattle.cat_model.specs.Values.{Bytes}
use Rattle.constraint_table.specs.Said.{statement_said}
use Rattle.good_texts.specs.Types.{check_said}
use Rattle.good_texts.proofs.Constraints.{checks_read}
use Rattle.object_rows.proofs.constraints.check_row.Goals as goal

pub returns : goal.returns
returns c = λ oids q d is_oid is_domain good. record {
  oid = sym is_oid;
  name = search rules;
  letter = c.letter.ensures;
  no_table = refl;
  domain = sym is_domain;
  no_index = refl;
  no_parent = refl;
  said = subst (λ (text : Bytes). option_and_then check_said (statement_said text) ≡ Some c.args.text.now) (sym c.in_ok-check_text.ensures) (ap (option_and_then check_said) (checks_read c.args.text.now good));
}
