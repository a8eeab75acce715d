-- COPY stays within its footprint where the pairs hold each foreign key of its table.
use Rattle.std.proofs.Common.{◌≡◌, Bool, true, false, ◌&&◌, ◌||◌, cond, List, [], ◌∷◌, ◌++◌, map, Option, Some, None, Result, Ok, Err, refl, ap, sym, subst, ◌∙◌, inl, inr}
use Rattle.std.specs.Prelude.{◌⊎◌, ℕ}
use Rattle.std.specs.List.{list_any, filter_map, cons_option}
use Rattle.std.specs.Cmp.{first_so, second_so}
use Rattle.std.specs.FinMap.{get, entries}
use Rattle.cat_model.specs.declared.object.QName.{QName}
use Rattle.cat_model.specs.declared.key.Key.{Key}
use Rattle.cat_model.specs.declared.key.Key.TheVariants as key
use Rattle.cat_model.specs.declared.class.Class.TheVariants as class
use Rattle.cat_model.specs.declared.class.Mark.{Mark}
use Rattle.cat_model.specs.declared.class.Mark.TheVariants as mark
use Rattle.cat_model.specs.declared.footprint.Footprint.{Footprint}
use Rattle.cat_model.specs.declared.cause.Cause.{Cause}
use Rattle.cat_model.specs.declared.cause.Cause.TheVariants as cause
use Rattle.cat_model.specs.declared.stmt.Stmt.TheVariants as stmt
use Rattle.cat_model.specs.declared.value.Value.TheVariants as value
use Rattle.cat_model.specs.declared.value.Value.{Value}
use Rattle.cat_model.specs.declared.value.Column.{Column}
use Rattle.cat_model.specs.declared.value.Constraint.{Constraint}
use Rattle.cat_model.specs.Values.{Bytes, Named, Row}
use Rattle.cat_model.specs.Tables.{repeated, orphan}
use Rattle.cat_model.specs.CopiedRows.{all_columns, copied_rows}
use Rattle.cat_model.specs.Trees.{Tree, refuse, sets, Seen, seen, same_path, there_and_of, class_of}
use Rattle.cat_model.specs.Marks.{Among}
use Rattle.cat_model.specs.Footprints.{parent_reads, is_given, GivesParents, footprint_of}
use Rattle.cat_model.specs.KeyEffects.{rows_in, columns_of}
use Rattle.cat_model.specs.CopyEffect.{Unique, unique_in, by_name, primary_columns, Foreign, foreign_of, foreign_in, all_unique, all_have_parents, rows_added, copy_rows}
use Rattle.cat_model.proofs.MarkLaws.{same_path-equal, not_true}
use Rattle.model_laws.proofs.Entries.{EachEntry, each-map, class-entries}
use Rattle.model_laws.proofs.Steps.{Stays, nothing, more, stays-sets, stays-scan, stays-look, stays-check, stays-table, stays-repeated, stays-orphan}

-- ---- the parents that are given are read

-- the marks of a parent are among marks
pub record ReadsParent (ms : List Mark) (parent : QName) : Type 0 where
  pub rel : Among ms (mark.Key (key.Rel parent))
  pub rows : Among ms (mark.Key (key.Rows parent))

later_parent : (ms : List Mark) (other parent : QName) → ReadsParent ms parent → ReadsParent (mark.Key (key.Rel other) ∷ mark.Key (key.Rows other) ∷ ms) parent
later_parent ms other parent h = record { rel = inr (inr h.rel); rows = inr (inr h.rows) }

given-read : (q parent : QName) (pairs : List (QName × QName)) → is_given pairs q parent ≡ true → ReadsParent (parent_reads q pairs) parent
given-read q parent [] h = not_true h
given-read q parent (pair ∷ pairs) h = at_pair q parent pair pairs (same_path q pair.0) (same_path parent pair.1) refl h (given-read q parent pairs)
  where
    at_pair : (q parent : QName) (pair : QName × QName) (pairs : List (QName × QName)) (a b : Bool) → same_path parent pair.1 ≡ b → a && b || is_given pairs q parent ≡ true → (is_given pairs q parent ≡ true → ReadsParent (parent_reads q pairs) parent) → ReadsParent (cond a (mark.Key (key.Rel pair.1) ∷ mark.Key (key.Rows pair.1) ∷ parent_reads q pairs) (parent_reads q pairs)) parent
    at_pair q parent pair pairs true true e h later =
        let same : pair.1 ≡ parent = sym (same_path-equal parent pair.1 e) in
        record { rel = inl (ap (λ (p : QName). mark.Key (key.Rel p)) same); rows = inr (inl (ap (λ (p : QName). mark.Key (key.Rows p)) same)) }
    at_pair q parent pair pairs true false e h later = later_parent (parent_reads q pairs) pair.1 parent (later h)
    at_pair q parent pair pairs false b e h later = later h

-- ---- the foreign keys of the table are given

abbrev IsGiven : List (QName × QName) → QName → Option Foreign → Type 0
IsGiven pairs q None = Unit {0}
IsGiven pairs q (Some f) = is_given pairs q f.parent ≡ true

abbrev AllGiven : List (QName × QName) → QName → List Foreign → Type 0
AllGiven pairs q [] = Unit {0}
AllGiven pairs q (f ∷ fs) = (is_given pairs q f.parent ≡ true) × AllGiven pairs q fs

-- what COPY asks of the pairs
abbrev Gives : List (QName × QName) → Named → QName → Type 0
Gives pairs n q = (name : Bytes) (c : Constraint) (parent : QName) (parent_names : List Bytes) → get n (key.Con q name) ≡ Some (value.Constraint c) → c.parent ≡ Some (parent, parent_names) → is_given pairs q parent ≡ true

parent-given : (pairs : List (QName × QName)) (q : QName) (name : Bytes) (c : Constraint) (o : Option (QName × List Bytes)) → c.parent ≡ o → ((parent : QName) (names : List Bytes) → c.parent ≡ Some (parent, names) → is_given pairs q parent ≡ true) → IsGiven pairs q (foreign_of name c o)
parent-given pairs q name c None e h = tt
parent-given pairs q name c (Some (parent, names)) e h = h parent names e

entry-given : (pairs : List (QName × QName)) (n : Named) (q : QName) → Gives pairs n q → (k : Key) (v : Value) → (get n k ≡ Some v) × (there_and_of (class.Constraints q) k (get n k) ≡ true) → IsGiven pairs q (foreign_in (k, v))
entry-given pairs n q gives (key.Con t name) (value.Constraint c) h =
    let of_table : same_path q t ≡ true = subst (λ (o : Option Value). there_and_of (class.Constraints q) (key.Con t name) o ≡ true) h.0 h.1 in
    let same : t ≡ q = sym (same_path-equal q t of_table) in
    let there : get n (key.Con q name) ≡ Some (value.Constraint c) = subst (λ (p : QName). get n (key.Con p name) ≡ Some (value.Constraint c)) same h.0 in
    parent-given pairs q name c c.parent refl (λ parent names e. gives name c parent names there e)
entry-given pairs n q gives (key.Con t name) _ h = tt
entry-given pairs n q gives _ v h = tt

onto-given : (pairs : List (QName × QName)) (q : QName) (o : Option Foreign) (fs : List Foreign) → IsGiven pairs q o → AllGiven pairs q fs → AllGiven pairs q (cons_option o fs)
onto-given pairs q None fs h g = g
onto-given pairs q (Some f) fs h g = (h, g)

all-given : (pairs : List (QName × QName)) (q : QName) (es : List (Key × Value)) → EachEntry (λ k v. IsGiven pairs q (foreign_in (k, v))) es → AllGiven pairs q (filter_map foreign_in es)
all-given pairs q [] h = tt
all-given pairs q (e ∷ es) h = onto-given pairs q (foreign_in e) (filter_map foreign_in es) h.0 (all-given pairs q es h.1)

foreigns-given : (pairs : List (QName × QName)) (n : Named) (q : QName) → Gives pairs n q → AllGiven pairs q (filter_map foreign_in (entries (class_of n (class.Constraints q))))
foreigns-given pairs n q gives =
    all-given pairs q (entries (class_of n (class.Constraints q)))
    (each-map (λ k v. (get n k ≡ Some v) × (there_and_of (class.Constraints q) k (get n k) ≡ true)) (λ k v. IsGiven pairs q (foreign_in (k, v))) (entry-given pairs n q gives) (entries (class_of n (class.Constraints q))) (class-entries n (class.Constraints q)))

-- ---- the tree

uniques-stay : (f : Footprint) (s : Seen) (us : List Unique) (columns : List Column) (rows : List Row) (next : Tree) → Stays f s next → Stays f s (all_unique us columns rows next)
uniques-stay f s [] columns rows next h = h
uniques-stay f s (u ∷ us) columns rows next h = stays-repeated u.0 (repeated columns u.1 rows) (uniques-stay f s us columns rows next h)

parents-stay : (f : Footprint) (s : Seen) (pairs : List (QName × QName)) (q : QName) (fs : List Foreign) (columns : List Column) (new all : List Row) (next : Tree) → AllGiven pairs q fs → ((m : Mark) → Among (parent_reads q pairs) m → Among f.reads m) → Stays f s next → Stays f s (all_have_parents q fs columns new all next)
parents-stay f s pairs q [] columns new all next given read h = h
parents-stay f s pairs q (g ∷ gs) columns new all next given read h =
    let reads : ReadsParent (parent_reads q pairs) g.parent = given-read q g.parent pairs given.0 in
    stays-look {k = key.Rel g.parent} (read (mark.Key (key.Rel g.parent)) reads.rel) (λ parent.
    stays-look {k = key.Rows g.parent} (read (mark.Key (key.Rows g.parent)) reads.rows) (λ rows.
    stays-orphan g.name (orphan columns g.columns new (columns_of parent) g.parent_columns (cond (same_path q g.parent) all (rows_in rows)))
    (parents-stay f s pairs q gs columns new all next given.1 read h)))

rows-stay : (f : Footprint) (s : Seen) (pairs : List (QName × QName)) (q : QName) (columns : List Column) (us : List Unique) (fs : List Foreign) (old : List Row) (r : Result (List Row) Cause) → AllGiven pairs q fs → ((m : Mark) → Among (parent_reads q pairs) m → Among f.reads m) → ((rows : List Row) → Stays f s (sets ((key.Rows q, Some (value.Rows rows)) ∷ []))) → Stays f s (rows_added q columns us fs old r)
rows-stay f s pairs q columns us fs old (Err because) given read h = record { is = tt }
rows-stay f s pairs q columns us fs old (Ok new) given read h =
    uniques-stay f s us columns (old ++ new) _ (parents-stay f s pairs q fs columns new (old ++ new) _ given read (h (old ++ new)))

pub copy_rows-stays : (n : Named) (pairs : List (QName × QName)) (q : QName) (names : List Bytes) (text : Bytes) → Gives pairs n q → Stays (footprint_of (stmt.CopyRows q names text) pairs) (seen n) (copy_rows q names text)
copy_rows-stays n pairs q names text gives =
    let f = footprint_of (stmt.CopyRows q names text) pairs in
    let s = seen n in
    let given = foreigns-given pairs n q gives in
    stays-table q (inl refl) (λ columns.
    stays-check (all_columns columns names) cause.WrongColumns
    (record {
      is = (
        inr (inl refl),
        (stays-scan {f = f} {s = s} {c = class.Indexes q} (inr (inr (inl refl))) (λ indexes.
            stays-look {k = key.Rows q} (inr (inr (inr (inl refl)))) (λ rows.
            rows-stay f s pairs q columns (by_name (filter_map unique_in (s.all (class.Constraints q) ++ indexes))) (filter_map foreign_in (s.all (class.Constraints q))) (rows_in rows) (copied_rows columns names (primary_columns (s.all (class.Constraints q))) text) given (λ m h. inr (inr (inr (inr h)))) (λ all. stays-sets (more f s (key.Rows q) _ (inl refl) nothing))))).is,
      );
    }))
