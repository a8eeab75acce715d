-- The tables of an empty cluster stand for it, with all that the laws ask for.
use Rattle.std.proofs.Common.{◌≡◌, [], Some, None, refl, sym, ◌∙◌}
use Rattle.std.proofs.lemmas.Option.{none-some}
use Rattle.std.specs.FinMap.{get, find, get-from_sorted}
use Rattle.cat_model.specs.declared.key.Key.{Key}
use Rattle.cat_model.specs.declared.key.Key.TheVariants as key
use Rattle.cat_model.specs.declared.value.Value.{Value}
use Rattle.cat_model.specs.declared.value.Value.TheVariants as value
use Rattle.cat_model.specs.Keys.{key_cmp}
use Rattle.cat_book.specs.Meets.{Meets}
use Rattle.plain_tables.specs.Depends.{depend_rules}
use Rattle.well_formed.specs.Columns.{column_rules}
use Rattle.model_laws.specs.Runs.{empty_entries, empty_cluster}
use Rattle.named_tables.specs.Standing.{AreRowsOf}
use Rattle.named_tables.specs.Examples.{first_oids, first_rows}
use Rattle.named_tables.proofs.Small.{rows_stand}
use Rattle.named_objects.specs.Types.{IsType, IsTypeRow, IsLabel, label_row}
use Rattle.named_objects.specs.Relations.{IsRelation, IsRelationRow, IsColumn, IsColumnRow, IsDefault, IsDefaultRow, IsSequence, IsSequenceRow, IsIndex, IsIndexRow, IsBody, IsBodyRow}
use Rattle.named_objects.specs.Constraints.{Constrained, of_table, of_domain, IsConstrained, IsConstrainedRow, IsComment, IsCommentRow}
use Rattle.named_objects.specs.Examples.{empty_oids, Empty}

found : (k : Key) → get empty_cluster k ≡ find key_cmp k empty_entries
found k = get-from_sorted key_cmp empty_entries k tt

none : (k : Key) (v : Value) → find key_cmp k empty_entries ≡ None → get empty_cluster k ≡ Some v → ⊥
none k v nothing is = none-some v (sym nothing ∙ sym (found k) ∙ is)

no_rows : {T R : Type 0} (There : T → Type 0) (Says : T → R → Type 0) → ((t : T) → There t → ⊥) → AreRowsOf There Says []
no_rows There Says nothing = record {
  each = λ t is. absurd (nothing t is);
  only = λ r at. absurd (none-some r at.1);
  once = λ i j earlier later t below at_i at_j one two. none-some later at_j;
}

no_constrained : (c : Constrained) → IsConstrained empty_cluster c → ⊥
no_constrained (of_table c) is = none (key.Con c.table c.name) (value.Constraint c.constraint) refl is
no_constrained (of_domain c) is = none (key.UserType c.path) (value.Domain c.domain) refl is.there

pub empty_stands : Empty
empty_stands = record {
  numbers = record {
    rises = λ q columns i j c d is below at_i at_j. absurd (none (key.Rel q) (value.Table columns) refl is);
    from_one = λ q columns i c is at. absurd (none (key.Rel q) (value.Table columns) refl is);
  };
  checks = record {
    apart = λ p q d e m n one two is_p is_q at_m at_n same. absurd (none (key.UserType p) (value.Domain d) refl is_p);
    of_no_table = λ p d m text q n v is_p at_m is_q same. none (key.UserType p) (value.Domain d) refl is_p;
    some = λ p d m text is at. absurd (none (key.UserType p) (value.Domain d) refl is);
  };
  labels = record {
    apart = λ p q ls ms i j l m is_p is_q at_i at_j same. absurd (none (key.UserType p) (value.Enum ls) refl is_p);
    some = λ p ls i l is at. absurd (none (key.UserType p) (value.Enum ls) refl is);
  };
  kept = record { view_columns = empty_table; depends = empty_depends };
  stand = record {
    cluster = rows_stand;
    types = no_rows (IsType empty_cluster) (IsTypeRow first_oids) (λ t is. none (key.UserType t.path) t.type refl is.there);
    labels = no_rows (IsLabel empty_cluster) (λ l row. row ≡ label_row empty_oids l) (λ l is. none (key.UserType l.path) (value.Enum l.labels) refl is.there);
    relations = no_rows (IsRelation empty_cluster) (IsRelationRow empty_cluster first_oids) (λ r is. none (key.Rel r.path) r.relation refl is);
    columns = no_rows (IsColumn empty_cluster) (IsColumnRow empty_oids) (λ c is. none (key.Rel c.table) (value.Table c.columns) refl is.there);
    defaults = no_rows (IsDefault empty_cluster) (IsDefaultRow empty_oids) (λ d is. none (key.Default d.table d.column) (value.DefaultText d.text) refl is);
    constraints = no_rows (IsConstrained empty_cluster) (IsConstrainedRow empty_oids) no_constrained;
    indexes = no_rows (IsIndex empty_cluster) (IsIndexRow first_oids) (λ i is. none (key.Index i.table i.name) (value.Index i.index) refl is);
    sequences = no_rows (IsSequence empty_cluster) (IsSequenceRow empty_cluster empty_oids) (λ s is. none (key.Rel s.path) (value.Sequence s.sequence) refl is.there);
    bodies = no_rows (IsBody empty_cluster) (IsBodyRow first_oids) (λ b is. none (key.Body b.view) (value.Body b.body) refl is);
    comments = no_rows (IsComment empty_cluster) (IsCommentRow empty_oids) (λ c is. none (key.Comment c.object) (value.Comment c.text) refl is);
    dependencies = refl;
    rows_held = λ q held is. absurd (none (key.Rows q) (value.Rows held) refl is);
  };
}
  where
    empty_table : Meets column_rules first_rows []
    empty_table = record {
      oids = λ i j a b k l below at_a at_b is_k is_l. absurd (none-some a at_a);
      names = λ i j a b k l below at_a at_b is_k is_l. absurd (none-some a at_a);
      places = λ i j a b k l below at_a at_b is_k is_l. absurd (none-some a at_a);
      marks = λ i j a b below at_a at_b marked. absurd (none-some a at_a);
      objects = λ i a at. absurd (none-some a at);
      there = λ i a at. absurd (none-some a at);
      texts = λ i a at. absurd (none-some a at);
      inside = λ i a at. absurd (none-some a at);
      needed = refl;
    }

    empty_depends : Meets depend_rules first_rows []
    empty_depends = record {
      oids = λ i j a b k l below at_a at_b is_k is_l. absurd (none-some a at_a);
      names = λ i j a b k l below at_a at_b is_k is_l. absurd (none-some a at_a);
      places = λ i j a b k l below at_a at_b is_k is_l. absurd (none-some a at_a);
      marks = λ i j a b below at_a at_b marked. absurd (none-some a at_a);
      objects = λ i a at. absurd (none-some a at);
      there = λ i a at. absurd (none-some a at);
      texts = λ i a at. absurd (none-some a at);
      inside = λ i a at. absurd (none-some a at);
      needed = refl;
    }
