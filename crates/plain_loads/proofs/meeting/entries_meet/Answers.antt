use Rattle.std.proofs.Common.{List, subst, ap, ◌∙◌}
use Rattle.std.specs.List.{AllByRecursion, filter_map}
use Rattle.std.proofs.lemmas.Result.{IfOk-weaker}
use Rattle.copy_text.specs.Lines.{data_lines}
use Rattle.cat_model.specs.declared.key.Key.{Key}
use Rattle.cat_model.specs.declared.value.Value.{Value}
use Rattle.cat_model.specs.Values.{Bytes}
use Rattle.cat_model.specs.CopyEffect.{foreign_in, primary_columns, unique_in}
use Rattle.plain_rows.specs.Lines.{LineFits}
use Rattle.plain_loads.specs.Meeting.{Differ, HasParents}
use Rattle.plain_loads.proofs.meeting.entries_meet.Goals as goal

pub returns : goal.returns
returns c =
    let tables = c.args.tables.now in
    let columns = c.args.columns.now in
    let text = c.args.text.now in
    IfOk-weaker c.all_have_parents.result _ _ (λ meet parents yes there constraints indexes. record {
      columns = columns;
      table = there;
      lines = subst (λ (primary : List Bytes). AllByRecursion (LineFits columns primary) (data_lines text)) (c.primary_columns.ensures ∙ ap primary_columns constraints) (rw c.in-Some.is at c.in_ok-fit.ensures.fit);
      unique = subst (λ (es : List (Key × Value)). AllByRecursion (Differ columns text) (filter_map unique_in es)) constraints (c.in_ok-all_differ.ensures c.if-not-branch.false);
      distinct = subst (λ (es : List (Key × Value)). AllByRecursion (Differ columns text) (filter_map unique_in es)) indexes (c.in_ok-all_differ-2.ensures c.if-not-branch-2.false);
      parents = subst (λ (es : List (Key × Value)). AllByRecursion (HasParents tables.named.now tables.book.now tables.rows.now c.args.q.now columns text) (filter_map foreign_in es)) constraints (parents yes);
    })
    c.all_have_parents.ensures
