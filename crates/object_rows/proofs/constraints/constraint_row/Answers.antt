use Rattle.std.proofs.Common.{◌≡◌, Some, refl, sym, subst, rules}
use Rattle.std.specs.Option.{option_and_then}
use Rattle.cat_model.specs.Values.{Bytes}
use Rattle.cat_model.specs.declared.value.Value.TheVariants as value
use Rattle.constraint_table.specs.Said.{statement_said}
use Rattle.good_texts.specs.Constraints.{constraint_value}
use Rattle.good_texts.proofs.Constraints.{in_order_read}
use Rattle.object_rows.proofs.constraints.constraint_row.Goals as goal

pub returns : goal.returns
returns c = λ of q is_oid is_table is_index is_parent good. record {
  oid = sym is_oid;
  name = search rules;
  letter = c.letter_of.ensures;
  table = sym is_table;
  no_domain = refl;
  index = sym is_index;
  parent = sym is_parent;
  said = subst (λ (text : Bytes). option_and_then constraint_value (statement_said text) ≡ Some (value.Constraint c.args.constraint.now)) (sym c.in_ok-constraint_text.ensures) (in_order_read c.args.constraint.now good);
}
