-- COPY leaves a catalogue in order.
use Rattle.std.proofs.Common.{◌≡◌, true, List, [], ◌∷◌, ◌++◌, if◌then◌else◌, Option, Some, None, Result, Ok, Err, refl, subst, filter_map}
use Rattle.std.specs.FinMap.{get}
use Rattle.std.specs.List.{list_all}
use Rattle.cat_model.specs.declared.cause.Cause.{Cause}
use Rattle.cat_model.specs.declared.cause.Cause.TheVariants as cause
use Rattle.cat_model.specs.declared.object.QName.{QName}
use Rattle.cat_model.specs.declared.key.Key.TheVariants as key
use Rattle.cat_model.specs.declared.class.Class.TheVariants as class
use Rattle.cat_model.specs.declared.value.Value.TheVariants as value
use Rattle.cat_model.specs.declared.value.Value.{Value}
use Rattle.cat_model.specs.declared.value.Column.{Column}
use Rattle.cat_model.specs.Values.{Bytes, Named, Row}
use Rattle.cat_model.specs.Tables.{repeated, orphan}
use Rattle.cat_model.specs.Trees.{Change, Tree, same_path, sets}
use Rattle.cat_model.specs.KeyEffects.{rows_in, columns_of}
use Rattle.cat_model.specs.CopiedRows.{all_columns, copied_rows}
use Rattle.cat_model.specs.CopyEffect.{Unique, Foreign, by_name, unique_in, foreign_in, primary_columns, all_unique, all_have_parents, rows_added, copy_rows}
use Rattle.cat_sound.specs.Texts.{Texts}
use Rattle.cat_sound.specs.Asked.{Asked, Meets, Passes, is_row}
use Rattle.cat_sound.specs.Itself.{AreRows}
use Rattle.cat_sound.specs.Sound.{IsSound}
use Rattle.cat_sound.proofs.Changes.{left, meets_is}
use Rattle.cat_sound.proofs.CopiedRows.{copied_fit}
use Rattle.cat_sound.proofs.Keeping.{sorted_answers}
use Rattle.cat_sound.proofs.Lists.{tested-append}
use Rattle.cat_sound.proofs.Wholes.{keeps_aside}
use Rattle.cat_sound.proofs.TreeSteps.{Keeps, keeps_sets, keeps_look, keeps_scan, keeps_check, keeps_table, keeps_repeated, keeps_orphan, keeps_refuse}

module _ (texts : Texts) (named : Named) (sound : IsSound texts named) where
  keeps_unique : (us : List Unique) (columns : List Column) (rows : List Row) {tree : Tree} → Keeps texts named tree → Keeps texts named (all_unique us columns rows tree)
  keeps_unique [] columns rows step = step
  keeps_unique (u ∷ us) columns rows step = keeps_repeated sound u.0 (repeated columns u.1 rows) (keeps_unique us columns rows step)

  keeps_parents : (q : QName) (fs : List Foreign) (columns : List Column) (new all : List Row) {tree : Tree} → Keeps texts named tree → Keeps texts named (all_have_parents q fs columns new all tree)
  keeps_parents q [] columns new all step = step
  keeps_parents q (f ∷ fs) columns new all step =
      keeps_look (key.Rel f.parent) (λ parent parent_is.
      keeps_look (key.Rows f.parent) (λ rows rows_are.
      keeps_orphan sound f.name (orphan columns f.columns new (columns_of parent) f.parent_columns (if same_path q f.parent then all else rows_in rows))
      (keeps_parents q fs columns new all step)))

  alike_rows : (old : Value) (rows : List Row) → AreRows old → (a : Asked) → Meets a old → Meets a (value.Rows rows)
  alike_rows (value.Rows before) rows own Asked.there met = met
  alike_rows (value.Rows before) rows own _ met = met
  alike_rows _ rows own a met = elim own [ ]

  module _ (q : QName) (columns : List Column) (is : get named (key.Rel q) ≡ Some (value.Table columns)) where
    -- the rows that the table has have a field for each column
    old_fit : (o : Option Value) → get named (key.Rows q) ≡ o → list_all (is_row columns) (rows_in o) ≡ true
    old_fit (Some (value.Rows rows)) at = subst (λ (t : Option Value). Passes t (Asked.holds rows)) is (sound.each (key.Rows q) (value.Rows rows) at).others.0
    old_fit (Some _) at = refl
    old_fit None at = refl

    rows_kept : (rows : List Row) → list_all (is_row columns) rows ≡ true → Keeps texts named (sets ((key.Rows q, Some (value.Rows rows)) ∷ []))
    rows_kept rows fit =
        let cs : List Change = (key.Rows q, Some (value.Rows rows)) ∷ [] in
        keeps_sets refl (keeps_aside texts named cs sound (refl, tt) (
          record {
            new = record { own = tt; others = (left cs named (key.Rel q, Asked.holds rows) refl (meets_is named (key.Rel q) (Asked.holds rows) (value.Table columns) is fit), tt) };
            answers = sorted_answers texts named cs (key.Rows q) (value.Rows rows) sound.each (λ old own. alike_rows old rows own);
          },
          tt,
        ))

    keeps_rows : (us : List Unique) (fs : List Foreign) (old : List Row) (read : Result (List Row) Cause) → list_all (is_row columns) old ≡ true → ((new : List Row) → read ≡ Ok new → list_all (is_row columns) new ≡ true) → Keeps texts named (rows_added q columns us fs old read)
    keeps_rows us fs old (Err because) fit new_fit = keeps_refuse sound because
    keeps_rows us fs old (Ok new) fit new_fit =
        keeps_unique us columns (old ++ new)
        (keeps_parents q fs columns new (old ++ new)
        (rows_kept (old ++ new) (tested-append (is_row columns) old new fit (new_fit new refl))))

  pub copy_rows-keeps : (q : QName) (names : List Bytes) (text : Bytes) → Keeps texts named (copy_rows q names text)
  copy_rows-keeps q names text =
      keeps_table sound q (λ columns is.
      keeps_check sound (all_columns columns names) cause.WrongColumns (λ all.
      keeps_scan (class.Constraints q) (λ constraints constraints_are.
      keeps_scan (class.Indexes q) (λ indexes indexes_are.
      keeps_look (key.Rows q) (λ rows rows_are.
      keeps_rows q columns is (by_name (filter_map unique_in (constraints ++ indexes))) (filter_map foreign_in constraints) (rows_in rows) (copied_rows columns names (primary_columns constraints) text)
      (old_fit q columns is rows rows_are) (λ new read. copied_fit columns names (primary_columns constraints) text new read))))))
