-- The order of rows that are sorted by the key of their cells.
use Rattle.std.proofs.Common.{◌≡◌, ◌+◌, ◌<◌, Bool, true, false, cond, List, [], ◌∷◌, length, map, get_or, refl, sym, ap, subst, ◌∙◌, arith}
use Rattle.std.specs.List.{All, filter}
use Rattle.std.specs.List.Sorted.{IsSortedBy, IsStableBy, ties}
use Rattle.std.proofs.lemmas.List.{length-map, get_or-map}

filter-map : {X Y : Type 0} (f : X → Y) (p : Y → Bool) (xs : List X) → filter p (map f xs) ≡ map f (filter (λ x. p (f x)) xs)
filter-map f p [] = refl
filter-map {X} {Y} f p (x ∷ xs) =
    ap (λ (rest : List Y). cond (p (f x)) (f x ∷ rest) rest) (filter-map f p xs) ∙ by (p (f x))
  where
    by : (b : Bool) → cond {A = List Y} b (f x ∷ map f (filter (λ x. p (f x)) xs)) (map f (filter (λ x. p (f x)) xs)) ≡ map f (cond {A = List X} b (x ∷ filter (λ x. p (f x)) xs) (filter (λ x. p (f x)) xs))
    by true = refl
    by false = refl

pub map-map : {X Y Z : Type 0} (f : X → Y) (g : Y → Z) (xs : List X) → map (λ x. g (f x)) xs ≡ map g (map f xs)
map-map f g [] = refl
map-map f g (x ∷ xs) = ap (λ (rest : List _). g (f x) ∷ rest) (map-map f g xs)

pub sorted_map : {X Y : Type 0} (f : X → Y) (lt : Y → Y → Bool) (xs : List X) → IsSortedBy (λ a b. lt (f a) (f b)) xs → IsSortedBy lt (map f xs)
sorted_map f lt [] rising k d low high = absurd (omega arith)
sorted_map f lt (x ∷ xs) rising k d low high =
    let within : k + 1 < length (x ∷ xs) = omega (arith, length-map (x ∷ xs) f) in
    rw (get_or-map f (x ∷ xs) (k + 1) x d within, get_or-map f (x ∷ xs) k x d (omega arith)) (rising k x low within)

pub stable_map : {X Y : Type 0} (f : X → Y) (lt : Y → Y → Bool) (xs ys : List X) → IsStableBy (λ a b. lt (f a) (f b)) xs ys → All (λ row. filter (ties lt row) (map f ys) ≡ filter (ties lt row) (map f xs)) (map f xs)
stable_map f lt [] ys stable k d within = absurd (omega arith)
stable_map {X} {Y} f lt (x ∷ xs) ys stable k d within =
    let lt_k : k < length (x ∷ xs) = omega (arith, length-map (x ∷ xs) f) in
    let row : Y = f (get_or (x ∷ xs) k x) in
    let P : Y → Type 0 = λ y. filter (ties lt y) (map f ys) ≡ filter (ties lt y) (map f (x ∷ xs)) in
    subst P (sym (get_or-map f (x ∷ xs) k x d lt_k)) (filter-map f (ties lt row) ys ∙ ap (map f) (stable (get_or (x ∷ xs) k x)) ∙ sym (filter-map f (ties lt row) (x ∷ xs)))
