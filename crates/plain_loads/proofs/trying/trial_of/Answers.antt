use Rattle.std.proofs.Common.{List, refl, subst, ap, ◌∙◌}
use Rattle.std.specs.List.{AllByRecursion, filter_map}
use Rattle.copy_text.specs.Lines.{data_lines}
use Rattle.cat_model.specs.declared.key.Key.{Key}
use Rattle.cat_model.specs.declared.value.Value.{Value}
use Rattle.cat_model.specs.Values.{Bytes}
use Rattle.cat_model.specs.KeyEffects.{columns_of}
use Rattle.cat_model.specs.CopyEffect.{foreign_in, primary_columns, unique_in}
use Rattle.plain_rows.specs.Lines.{LineFits}
use Rattle.plain_loads.specs.Meeting.{Differ, HasParents}
use Rattle.plain_loads.proofs.PartsSeen.{none_twice}
use Rattle.plain_loads.proofs.trying.trial_of.Goals as goal

pub returns : goal.returns
returns c = λ there constraints indexes.
    let trying = c.args.trying.now in
    let path = c.args.path in
    let columns = c.args.columns in
    record {
      meets = λ texts known text keys seen.
          let apart = none_twice columns c.one_place-own.result keys text seen.apart in
          record {
            columns = columns;
            table = there;
            lines = subst (λ (primary : List Bytes). AllByRecursion (LineFits columns primary) (data_lines text)) (c.primary_columns-primary.ensures ∙ ap primary_columns constraints) seen.fit;
            unique = subst (λ (es : List (Key × Value)). AllByRecursion (Differ columns text) (filter_map unique_in es)) constraints (c.in_ok-are_on.ensures.unique c.if-not-branch.false text apart);
            distinct = subst (λ (es : List (Key × Value)). AllByRecursion (Differ columns text) (filter_map unique_in es)) indexes (c.in_ok-are_on.ensures.distinct c.if-not-branch.false text apart);
            parents = subst (λ (es : List (Key × Value)). AllByRecursion (HasParents trying.named.now trying.book.now texts path columns text) (filter_map foreign_in es)) constraints (c.in_ok-add_links.ensures c.if-not-branch-2.false texts known text seen.linked);
          };
      columns = ap columns_of there;
      oid = refl;
    }
