-- Constraints that are sorted by their names are in order.
use Rattle.std.proofs.Common.{◌≡◌, Bool, List, [], ◌∷◌, map, refl, ap, ◌∙◌, inl, inr}
use Rattle.std.specs.List.{filter}
use Rattle.std.specs.List.Sorted.{IsSortedBy, ties}
use Rattle.std.specs.Cmp.{IsStrictWeakOrder}
use Rattle.std.proofs.lemmas.Bool.{cases_Bool}
use Rattle.std.proofs.lemmas.Cmp.{nat_list_cmp_total}
use Rattle.std.proofs.lemmas.List.Sorted.{ranks_by}
use denote.Ref.{Bor}
use Rattle.cat_rows.specs.declared.constraints.ConstraintRow.{ConstraintRow}
use Rattle.dep_sort.specs.FirstOrder.{placed, in_order}
use Rattle.dep_sort.proofs.InOrder.{sort_gives}
use Rattle.dump_rows.specs.Rows.{name_less}

abbrev pub Row : Type 0
Row = Bor ConstraintRow

abbrev pub less : Row → Row → Bool
less a b = name_less a.now b.now

pub row_order : IsStrictWeakOrder less
row_order = ranks_by nat_list_cmp_total (λ (r : Row). r.now.conname)

map_placed : {X Y : Type 0} (f : X → Y) (below : Y → Y → Bool) (x : X) (ys : List X) → map f (placed (λ a b. below (f a) (f b)) x ys) ≡ placed below (f x) (map f ys)
unfolding placed
map_placed f below x [] = refl
map_placed {X} {Y} f below x (y ∷ ys) =
    elim (cases_Bool (below (f y) (f x))) [
      | inl is ↦ rw is (ap (λ (l : List Y). f y ∷ l) (map_placed f below x ys))
      | inr isnt ↦ rw isnt refl
    ]

map_in_order : {X Y : Type 0} (f : X → Y) (below : Y → Y → Bool) (xs : List X) → map f (in_order (λ a b. below (f a) (f b)) xs) ≡ in_order below (map f xs)
unfolding in_order
map_in_order f below [] = refl
map_in_order f below (x ∷ xs) = map_placed f below x (in_order (λ a b. below (f a) (f b)) xs) ∙ ap (placed below (f x)) (map_in_order f below xs)

pub rows_are : (rows sorted : List Row) → IsSortedBy less sorted → ((z : Row) → filter (ties less z) sorted ≡ filter (ties less z) rows) → map (λ (r : Row). r.now) sorted ≡ in_order name_less (map (λ (r : Row). r.now) rows)
rows_are rows sorted rising stable = ap (map (λ (r : Row). r.now)) (sort_gives less row_order rows sorted rising stable) ∙ map_in_order (λ (r : Row). r.now) name_less rows
