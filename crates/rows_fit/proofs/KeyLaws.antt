-- One key more that no two rows have in common, or for which each row has a parent; and the effect of COPY.
use Rattle.std.proofs.Common.{◌≡◌, ℕ, ◌+◌, ◌<◌, List, [], ◌∷◌, length, map, drop, get_or, Option, Some, None, refl, ap, sym, ◌∙◌, add-one, drop-cons}
use Rattle.cat_model.specs.declared.object.QName.{QName}
use Rattle.cat_model.specs.declared.cause.Cause.{Cause}
use Rattle.cat_model.specs.declared.value.Column.{Column}
use Rattle.cat_model.specs.Values.{Bytes, Row}
use Rattle.cat_model.specs.Tables.{repeated, orphan}
use Rattle.cat_model.specs.Trees.{Tree, Seen, outcome}
use Rattle.cat_model.specs.KeyEffects.{refuse_repeated, refuse_orphan}
use Rattle.cat_model.specs.CopyEffect.{Unique, Foreign, all_unique, all_have_parents}
use Rattle.rows_fit.specs.KeyCauses.{duplicate_or, unique_cause, Linked, orphan_or, parent_cause, linked, refused_or}

pub one_unique : (columns : List Column) (rows : List Row) (us : List Unique) (i : ℕ) (u : Unique) → i < length us → u ≡ get_or us i u
    → unique_cause (drop i us) columns rows ≡ duplicate_or u.0 (repeated columns u.1 rows) (unique_cause (drop (i + 1) us) columns rows)
one_unique columns rows us i u below is =
    let e : drop i us ≡ get_or us i u ∷ drop (i + 1) us = rw add-one (drop-cons us i u below) in
    ap (λ (vs : List Unique). unique_cause vs columns rows) e
    ∙ ap (λ (v : Unique). duplicate_or v.0 (repeated columns v.1 rows) (unique_cause (drop (i + 1) us) columns rows)) (sym is)

pub one_foreign : (columns : List Column) (rows : List Row) (fs : List Linked) (i : ℕ) (f : Linked) → i < length fs → f ≡ get_or fs i f
    → parent_cause (drop i fs) columns rows ≡ orphan_or f.name (orphan columns f.columns rows f.parent_columns f.parent_names f.parent_rows) (parent_cause (drop (i + 1) fs) columns rows)
one_foreign columns rows fs i f below is =
    let e : drop i fs ≡ get_or fs i f ∷ drop (i + 1) fs = rw add-one (drop-cons fs i f below) in
    ap (λ (gs : List Linked). parent_cause gs columns rows) e
    ∙ ap (λ (g : Linked). orphan_or g.name (orphan columns g.columns rows g.parent_columns g.parent_names g.parent_rows) (parent_cause (drop (i + 1) fs) columns rows)) (sym is)

-- ---- the effect of COPY

duplicates : (name : Bytes) (pair : Option (ℕ × ℕ)) (tree next : Tree) (later : Option Cause) (seen : Seen) → outcome tree seen ≡ refused_or later (outcome next seen)
    → outcome (refuse_repeated name pair tree) seen ≡ refused_or (duplicate_or name pair later) (outcome next seen)
duplicates name None tree next later seen e = e
duplicates name (Some (first, second)) tree next later seen e = refl

pub uniques_tried : (us : List Unique) (columns : List Column) (rows : List Row) (next : Tree) (seen : Seen) → outcome (all_unique us columns rows next) seen ≡ refused_or (unique_cause us columns rows) (outcome next seen)
uniques_tried [] columns rows next seen = refl
uniques_tried (u ∷ us) columns rows next seen =
    duplicates u.0 (repeated columns u.1 rows) (all_unique us columns rows next) next (unique_cause us columns rows) seen (uniques_tried us columns rows next seen)

orphans : (name : Bytes) (row : Option ℕ) (tree next : Tree) (later : Option Cause) (seen : Seen) → outcome tree seen ≡ refused_or later (outcome next seen)
    → outcome (refuse_orphan name row tree) seen ≡ refused_or (orphan_or name row later) (outcome next seen)
orphans name None tree next later seen e = e
orphans name (Some row) tree next later seen e = refl

pub parents_tried : (q : QName) (fs : List Foreign) (columns : List Column) (added all : List Row) (next : Tree) (seen : Seen)
    → outcome (all_have_parents q fs columns added all next) seen ≡ refused_or (parent_cause (map (linked seen q all) fs) columns added) (outcome next seen)
parents_tried q [] columns added all next seen = refl
parents_tried q (f ∷ fs) columns added all next seen =
    let l = linked seen q all f in
    orphans f.name (orphan columns l.columns added l.parent_columns l.parent_names l.parent_rows) (all_have_parents q fs columns added all next) next (parent_cause (map (linked seen q all) fs) columns added) seen
    (parents_tried q fs columns added all next seen)
