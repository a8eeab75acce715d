use Rattle.std.proofs.Common.{sym, ap, subst, ◌∙◌}
use Rattle.cat_model.specs.RowTexts.{rows_held, IsSpelled}
use Rattle.cat_model.proofs.RowsSpelled.{none_held, none_are}
use Rattle.cat_model.proofs.rows.TableRows.new.Goals as goal

pub invariant_of-result : goal.invariant_of-result
invariant_of-result c = subst IsSpelled (sym c.new.ensures.items) none_held

pub returns : goal.returns
returns c = ap rows_held c.new.ensures.items ∙ none_are
