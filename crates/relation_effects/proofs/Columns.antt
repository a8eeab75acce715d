-- What is due of columns, one column after another.
use Rattle.std.proofs.Common.{◌≡◌, ℕ, ◌+◌, ◌<◌, ◌≤◌, List, [], ◌∷◌, ◌++◌, length, get_or, drop, sym, ap, subst, ◌∙◌, append_assoc, Result}
use Rattle.std.proofs.lemmas.List.{append-nil, at_drop_all, drop_more}
use Rattle.cat_model.specs.declared.cause.Cause.{Cause}
use Rattle.cat_model.specs.declared.object.QName.{QName}
use Rattle.cat_model.specs.declared.table.ColumnDef.{ColumnDef}
use Rattle.cat_model.specs.declared.value.Column.{Column}
use Rattle.cat_model.specs.RelationEffects.{needs_columns}
use Rattle.cat_model.specs.Trees.{Change, Tree, outcome, Seen}
use Rattle.eng_steps.specs.declared.refusal.ApplyError.{ApplyError}
use Rattle.eng_steps.specs.Outcomes.{IsRefusal}
use Rattle.relation_effects.specs.NewTables.{column_then}

-- the rest behind the columns so far
abbrev pub behind : List Column → (List Column → Tree) → List Column → Tree
behind done next columns = next (done ++ columns)

module _ (s : Seen) (q : QName) (all : List ColumnDef) (i : ℕ) (done : List Column) (next : List Column → Tree) where
  -- what is due of the columns from a place on
  abbrev pub due_from : Result (List Change) Cause
  due_from = outcome (needs_columns q (drop i all) (behind done next)) s

  -- with the column at the place, what is due of those behind it
  abbrev later : Column → Tree
  later column = needs_columns q (drop (i + 1) all) (λ columns. next (done ++ column ∷ columns))

  at_place : (x : ColumnDef) → i < length all → x ≡ get_or all i x → due_from ≡ outcome (column_then q x later) s
  at_place x inside is =
      ap (λ (columns : List ColumnDef). outcome (needs_columns q columns (behind done next)) s)
      (drop_more all i x inside ∙ ap (λ (c : ColumnDef). c ∷ drop (i + 1) all) (sym is))

  regrouped : (column : Column) (after : List Column) → after ≡ done ++ column ∷ []
      → outcome (later column) s ≡ outcome (needs_columns q (drop (i + 1) all) (behind after next)) s
  regrouped column after pushed =
      ap (λ (f : List Column → List Column). outcome (needs_columns q (drop (i + 1) all) (λ columns. next (f columns))) s)
      (λ j columns. (sym (append_assoc done (column ∷ []) columns) ∙ ap (λ (front : List Column). front ++ columns) (sym pushed)) j)

  -- a column that passed stands behind those so far
  pub passed : (x : ColumnDef) → i < length all → x ≡ get_or all i x
      → (column : Column) → ((then : Column → Tree) → outcome (column_then q x then) s ≡ outcome (then column) s)
      → (after : List Column) → after ≡ done ++ column ∷ []
      → due_from ≡ outcome (needs_columns q (drop (i + 1) all) (behind after next)) s
  passed x inside is column here after pushed = at_place x inside is ∙ here later ∙ regrouped column after pushed

  -- a column that is refused refuses all
  pub refused : (x : ColumnDef) → i < length all → x ≡ get_or all i x
      → (error : ApplyError) → ((then : Column → Tree) → IsRefusal error (outcome (column_then q x then) s))
      → {due : Result (List Change) Cause} → due ≡ due_from → IsRefusal error due
  refused x inside is error here from = subst (IsRefusal error) (sym (from ∙ at_place x inside is)) (here later)

  -- behind the last column
  pub ended : length all ≤ i → due_from ≡ outcome (next done) s
  ended le =
      at_drop_all (λ (columns : List ColumnDef). outcome (needs_columns q columns (behind done next)) s) all i le
      ∙ ap (λ (columns : List Column). outcome (next columns) s) (append-nil done)
