-- What the keys of a table say of new rows is what is due of them.
use Rattle.std.proofs.Common.{◌≡◌, ℕ, ◌+◌, ◌<◌, List, [], ◌∷◌, ◌++◌, map, length, drop, get_or, Option, Some, None, Result, Ok, refl, sym, ap, ◌∙◌, add-one, drop-cons}
use Rattle.std.specs.List.{filter_map}
use Rattle.cat_model.specs.declared.object.QName.{QName}
use Rattle.cat_model.specs.declared.cause.Cause.{Cause}
use Rattle.cat_model.specs.declared.key.Key.{Key}
use Rattle.cat_model.specs.declared.key.Key.TheVariants as key
use Rattle.cat_model.specs.declared.value.Column.{Column}
use Rattle.cat_model.specs.declared.value.Value.{Value}
use Rattle.cat_model.specs.declared.value.Value.TheVariants as value
use Rattle.cat_model.specs.Values.{Row}
use Rattle.cat_model.specs.CopyEffect.{Foreign, foreign_in, all_have_parents}
use Rattle.cat_model.specs.Tables.{orphan}
use Rattle.cat_model.specs.Trees.{Change, Seen, sets, outcome}
use Rattle.rows_fit.specs.Causes.{first_cause}
use Rattle.rows_fit.specs.KeyCauses.{unique_cause, Linked, orphan_or, parent_cause, linked, refused_or}
use Rattle.copy_effects.specs.Keys.{uniques_of, cause_with, added_with}
use Rattle.rows_fit.proofs.KeyLaws.{uniques_tried, parents_tried}

one_cause : {A : Type 0} (first second : Option Cause) (later : Result A Cause) → refused_or first (refused_or second later) ≡ refused_or (first_cause first second) later
one_cause (Some because) second later = refl
one_cause None second later = refl

abbrev pub all_set : QName → List Row → List Change
all_set q rows = (key.Rows q, Some (value.Rows rows)) ∷ []

-- what is due is the cause that was found among the keys, and else that the rows are set
pub keys_tried : (s : Seen) (q : QName) (columns : List Column) (constraints indexes : List (Key × Value)) (old new : List Row) (found : Option Cause)
    → cause_with s q columns constraints indexes old new ≡ found
    → outcome (added_with q columns constraints indexes old (Ok new)) s ≡ refused_or found (Ok (all_set q (old ++ new)))
keys_tried s q columns constraints indexes old new found is =
    let us = uniques_of constraints indexes in
    let fs = filter_map foreign_in constraints in
    let next = sets (all_set q (old ++ new)) in
    let made : Result (List Change) Cause = Ok (all_set q (old ++ new)) in
    uniques_tried us columns (old ++ new) (all_have_parents q fs columns new (old ++ new) next) s
    ∙ ap (λ (later : Result (List Change) Cause). refused_or (unique_cause us columns (old ++ new)) later) (parents_tried q fs columns new (old ++ new) next s)
    ∙ one_cause (unique_cause us columns (old ++ new)) (parent_cause (map (linked s q (old ++ new)) fs) columns new) made
    ∙ ap (λ (because : Option Cause). refused_or because made) is

-- the next foreign key with what stands under its parent
pub one_link : (link : Foreign → Linked) (columns : List Column) (rows : List Row) (fs : List Foreign) (i : ℕ) (f : Foreign) → i < length fs → f ≡ get_or fs i f
    → parent_cause (map link (drop i fs)) columns rows
    ≡ orphan_or (link f).name (orphan columns (link f).columns rows (link f).parent_columns (link f).parent_names (link f).parent_rows) (parent_cause (map link (drop (i + 1) fs)) columns rows)
one_link link columns rows fs i f below is =
    let e : drop i fs ≡ get_or fs i f ∷ drop (i + 1) fs = rw add-one (drop-cons fs i f below) in
    ap (λ (gs : List Foreign). parent_cause (map link gs) columns rows) e
    ∙ ap (λ (g : Foreign). orphan_or (link g).name (orphan columns (link g).columns rows (link g).parent_columns (link g).parent_names (link g).parent_rows) (parent_cause (map link (drop (i + 1) fs)) columns rows)) (sym is)
