-- Loops that add the rows of each thing, or of each entry's things.
use Rattle.std.proofs.Common.{◌≡◌, ℕ, zero, suc, ◌+◌, ◌<◌, ◌≤◌, List, [], ◌∷◌, ◌++◌, length, map, take, append-nil, append_assoc, sym, ap, subst, ◌∙◌, arith}
use Rattle.std.specs.List.{AllByRecursion, flat_map}
use Rattle.std.proofs.Math.ListN.{get_or}
use Rattle.std.proofs.lemmas.Grind.{flat_map-append}
use Rattle.std.proofs.lemmas.List.{take_all, take_more, map_more, length-take-le}
use Rattle.cat_model.specs.declared.object.QName.{QName}
use Rattle.cat_model.specs.declared.value.Column.{Column}
use Rattle.cat_model.specs.Values.{Bytes}
use Rattle.cat_names.specs.Naming.{Entry}
use Rattle.object_export.specs.Types.{NamedLabel}
use Rattle.object_export.specs.Relations.{NamedColumn}
use Rattle.map_export.specs.Making.{AreSaid}
use Rattle.map_export.proofs.Loops.{said_append}
use Rattle.object_export.specs.Parts.{labels_from, columns_from}
use Rattle.cluster_loops.proofs.EntryLoops.{Read, seen, read_at, entry_at}
use Rattle.object_loops.specs.Adding.{Adds}

-- ---- what holds of each

pub all_here : {X : Type 0} (P : X → Type 0) (xs : List X) (i : ℕ) (d : X) → i < length xs → AllByRecursion P xs → P (get_or xs i d)
all_here P [] i d within all = absurd (omega arith)
all_here P (x ∷ xs) zero d within all = all.0
all_here P (x ∷ xs) (suc i) d within all = all_here P xs i d (omega arith) all.1

-- ---- rows behind rows

module _ {T R : Type 0} (Says : T → R → Type 0) where
  pub adds_none : (before after : List R) → after ≡ before → Adds Says [] before after
  adds_none before after same = ([], same ∙ sym (append-nil before), tt)

  pub adds_first : (before after : List R) (t : T) (row : R) → after ≡ before ++ row ∷ [] → Says t row → Adds Says (t ∷ []) before after
  adds_first before after t row added says = (row ∷ [], added, (says, tt))

  pub adds_one : (ts : List T) (before rows after : List R) (t : T) (row : R) → Adds Says ts before rows → after ≡ rows ++ row ∷ [] → Says t row → Adds Says (ts ++ t ∷ []) before after
  adds_one ts before rows after t row adds added says = (
    adds.0 ++ row ∷ [],
    added ∙ ap (λ (rs : List R). rs ++ row ∷ []) adds.1 ∙ append_assoc before adds.0 (row ∷ []),
    said_append Says ts (t ∷ []) adds.0 (row ∷ []) adds.2 (says, tt),
  )

  module _ {X E : Type 0} (things : E → List T) (g : X → E) (xs : List X) where
    pub lists_more : (i : ℕ) (x : X) (rows after : List R) → i < length xs → x ≡ get_or xs i x → AreSaid Says (flat_map things (map g (take i xs))) rows → Adds Says (things (g x)) rows after → AreSaid Says (flat_map things (map g (take (i + 1) xs))) after
    lists_more i x rows after within is said adds =
        let all : flat_map things (map g (take (i + 1) xs)) ≡ flat_map things (map g (take i xs)) ++ things (g x) =
        ap (flat_map things) (map_more g xs i x within ∙ ap (λ (y : X). map g (take i xs) ++ g y ∷ []) (sym is))
        ∙ flat_map-append things (map g (take i xs)) (g x ∷ [])
        ∙ ap (λ (ts : List T). flat_map things (map g (take i xs)) ++ ts) (append-nil (things (g x))) in
        subst (λ (ts : List T). AreSaid Says ts after) (sym all)
        (subst (AreSaid Says (flat_map things (map g (take i xs)) ++ things (g x))) (sym adds.1)
        (said_append Says (flat_map things (map g (take i xs))) (things (g x)) rows adds.0 said adds.2))

    pub lists_end : (i : ℕ) (rows : List R) → length xs ≤ i → AreSaid Says (flat_map things (map g (take i xs))) rows → AreSaid Says (flat_map things (map g xs)) rows
    lists_end i rows all said = subst (λ (ys : List X). AreSaid Says (flat_map things (map g ys)) rows) (take_all i xs all) said

-- ---- one more entry, that has several rows

pub several_more : {T R : Type 0} (Says : T → R → Type 0) (xs : List Read) (i : ℕ) (x y : Read) (rows after : List R) → i < length xs → x ≡ get_or xs i x → (things : Entry → List T) → AreSaid Says (flat_map things (map seen (take i xs))) rows → Adds Says (things (read_at xs i x y)) rows after → AreSaid Says (flat_map things (map seen (take (i + 1) xs))) after
several_more {R = R} Says xs i x y rows after within is things said adds =
    lists_more Says things seen xs i x rows after within is said (subst (λ (e : Entry). Adds Says (things e) rows after) (entry_at xs i x y within is) adds)

-- ---- one more label or column

labels-append : (q : QName) (all : List Bytes) (place : ℕ) (xs ys : List Bytes) → labels_from q all place (xs ++ ys) ≡ labels_from q all place xs ++ labels_from q all (place + length xs) ys
labels-append q all place [] ys = let e : place ≡ place + 0 = omega arith in ap (λ (p : ℕ). labels_from q all p ys) e
labels-append q all place (x ∷ xs) ys =
    let e : (place + 1) + length xs ≡ place + suc (length xs) = omega arith in
    ap (λ (ls : List NamedLabel). record { path = q; labels = all; place = place; label = x } ∷ ls)
    (labels-append q all (place + 1) xs ys ∙ ap (λ (p : ℕ). labels_from q all (place + 1) xs ++ labels_from q all p ys) e)

pub labels_more : (q : QName) (all : List Bytes) (i : ℕ) (d : Bytes) → i < length all → labels_from q all 0 (take (i + 1) all) ≡ labels_from q all 0 (take i all) ++ record { path = q; labels = all; place = i; label = get_or all i d } ∷ []
labels_more q all i d within =
    let e : 0 + length (take i all) ≡ i = omega (arith, length-take-le i all (omega arith)) in
    ap (labels_from q all 0) (take_more all i d within)
    ∙ labels-append q all 0 (take i all) (get_or all i d ∷ [])
    ∙ ap (λ (p : ℕ). labels_from q all 0 (take i all) ++ record { path = q; labels = all; place = p; label = get_or all i d } ∷ []) e

columns-append : (q : QName) (all : List Column) (place : ℕ) (xs ys : List Column) → columns_from q all place (xs ++ ys) ≡ columns_from q all place xs ++ columns_from q all (place + length xs) ys
columns-append q all place [] ys = let e : place ≡ place + 0 = omega arith in ap (λ (p : ℕ). columns_from q all p ys) e
columns-append q all place (x ∷ xs) ys =
    let e : (place + 1) + length xs ≡ place + suc (length xs) = omega arith in
    ap (λ (cs : List NamedColumn). record { table = q; columns = all; place = place; column = x } ∷ cs)
    (columns-append q all (place + 1) xs ys ∙ ap (λ (p : ℕ). columns_from q all (place + 1) xs ++ columns_from q all p ys) e)

pub columns_more : (q : QName) (all : List Column) (i : ℕ) (d : Column) → i < length all → columns_from q all 0 (take (i + 1) all) ≡ columns_from q all 0 (take i all) ++ record { table = q; columns = all; place = i; column = get_or all i d } ∷ []
columns_more q all i d within =
    let e : 0 + length (take i all) ≡ i = omega (arith, length-take-le i all (omega arith)) in
    ap (columns_from q all 0) (take_more all i d within)
    ∙ columns-append q all 0 (take i all) (get_or all i d ∷ [])
    ∙ ap (λ (p : ℕ). columns_from q all 0 (take i all) ++ record { table = q; columns = all; place = p; column = get_or all i d } ∷ []) e
