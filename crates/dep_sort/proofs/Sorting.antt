-- A stable sort by a total order gives the places in that order.
use Rattle.std.proofs.Common.{◌≡◌, ℕ, suc, ◌+◌, ◌<◌, ◌≤◌, Bool, List, [], ◌∷◌, ◌++◌, length, map, get_or, take, inl, inr, refl, sym, ap, ◌∙◌, arith}
use Rattle.std.specs.List.{All, AllByRecursion, filter, enumerate_from}
use Rattle.std.specs.List.Sorted.{IsSortedBy, ties}
use Rattle.std.specs.Cmp.{IsTotalOrder, IsStrictWeakOrder}
use Rattle.std.specs.Cmp.Lexicographic.{nat_list_cmp_total}
use Rattle.std.specs.Ordering.{is_lt}
use Rattle.std.proofs.lemmas.Bool.{cases_Bool}
use Rattle.std.proofs.lemmas.Cmp.{nat_cmp_total, int_cmp_total, on_total, then_total}
use Rattle.std.proofs.lemmas.List.{length-map, length-take-le, map-append, take_more}
use Rattle.std.proofs.lemmas.List.Elements.{All-from_recursion}
use Rattle.std.proofs.lemmas.List.FromFn.{length-enumerate_from}
use Rattle.std.proofs.lemmas.List.Sorted.{ranks_by}
use denote.Ref.{Bor}
use Rattle.graph_parts.specs.declared.object.Obj.{Obj}
use Rattle.graph_parts.specs.declared.object.ObjId.{ObjId}
use Rattle.dep_sort.specs.FirstOrder.{priority, name_bytes, first_cmp, id_cmp, placed, in_order, first_places, id_places}
use Rattle.dep_sort.proofs.InOrder.{sort_gives}

abbrev pub Entry : Type 0
Entry = ℕ × Bor Obj

abbrev pub seen : Entry → ℕ × Obj
seen e = (e.0, e.1.now)

first_total : IsTotalOrder first_cmp
unfolding first_cmp
first_total =
    then_total (on_total (λ (o : Obj). priority o.kind) nat_cmp_total)
    (then_total (on_total (λ (o : Obj). name_bytes o.schema) nat_list_cmp_total)
    (then_total (on_total (λ (o : Obj). name_bytes o.name) nat_list_cmp_total)
    (then_total (on_total (λ (o : Obj). o.attnum) int_cmp_total) (on_total (λ (o : Obj). o.id.oid) nat_cmp_total))))

id_total : IsTotalOrder id_cmp
unfolding id_cmp
id_total = then_total (on_total (λ (i : ObjId). i.class) nat_cmp_total) (on_total (λ (i : ObjId). i.oid) nat_cmp_total)

abbrev pub first_less : Entry → Entry → Bool
first_less a b = is_lt (first_cmp a.1.now b.1.now)

abbrev pub id_less : Entry → Entry → Bool
id_less a b = is_lt (id_cmp a.1.now.id b.1.now.id)

pub first_order : IsStrictWeakOrder first_less
first_order = ranks_by first_total (λ (e : Entry). e.1.now)

pub id_order : IsStrictWeakOrder id_less
id_order = ranks_by id_total (λ (e : Entry). e.1.now.id)

map_placed : {X Y : Type 0} (f : X → Y) (less : Y → Y → Bool) (x : X) (ys : List X) → map f (placed (λ a b. less (f a) (f b)) x ys) ≡ placed less (f x) (map f ys)
unfolding placed
map_placed f less x [] = refl
map_placed {X} {Y} f less x (y ∷ ys) =
    elim (cases_Bool (less (f y) (f x))) [
      | inl is ↦ rw is (ap (λ (l : List Y). f y ∷ l) (map_placed f less x ys))
      | inr isnt ↦ rw isnt refl
    ]

map_in_order : {X Y : Type 0} (f : X → Y) (less : Y → Y → Bool) (xs : List X) → map f (in_order (λ a b. less (f a) (f b)) xs) ≡ in_order less (map f xs)
unfolding in_order
map_in_order f less [] = refl
map_in_order f less (x ∷ xs) = map_placed f less x (in_order (λ a b. less (f a) (f b)) xs) ∙ ap (placed less (f x)) (map_in_order f less xs)

places_seen : (xs : List Entry) → map (λ (e : Entry). e.0) xs ≡ map (λ (e : ℕ × Obj). e.0) (map seen xs)
places_seen [] = refl
places_seen (x ∷ xs) = ap (λ (l : List ℕ). x.0 ∷ l) (places_seen xs)

pub first_places_are : (objects : List Obj) (entries sorted : List Entry) → map seen entries ≡ enumerate_from 0 objects → IsSortedBy first_less sorted → ((z : Entry) → filter (ties first_less z) sorted ≡ filter (ties first_less z) entries) → map (λ (e : Entry). e.0) sorted ≡ first_places objects
unfolding first_places
first_places_are objects entries sorted numbered rising stable =
    places_seen sorted
    ∙ ap (λ (l : List Entry). map (λ (e : ℕ × Obj). e.0) (map seen l)) (sort_gives first_less first_order entries sorted rising stable)
    ∙ ap (map (λ (e : ℕ × Obj). e.0)) (map_in_order seen (λ a b. is_lt (first_cmp a.1 b.1)) entries ∙ ap (in_order (λ a b. is_lt (first_cmp a.1 b.1))) numbered)

pub id_places_are : (objects : List Obj) (entries sorted : List Entry) → map seen entries ≡ enumerate_from 0 objects → IsSortedBy id_less sorted → ((z : Entry) → filter (ties id_less z) sorted ≡ filter (ties id_less z) entries) → map (λ (e : Entry). e.0) sorted ≡ id_places objects
unfolding id_places
id_places_are objects entries sorted numbered rising stable =
    places_seen sorted
    ∙ ap (λ (l : List Entry). map (λ (e : ℕ × Obj). e.0) (map seen l)) (sort_gives id_less id_order entries sorted rising stable)
    ∙ ap (map (λ (e : ℕ × Obj). e.0)) (map_in_order seen (λ a b. is_lt (id_cmp a.1.id b.1.id)) entries ∙ ap (in_order (λ a b. is_lt (id_cmp a.1.id b.1.id))) numbered)

-- ---- objects with their places

pub enumerate_push : {X : Type 0} (n : ℕ) (xs : List X) (x : X) → enumerate_from n (xs ++ x ∷ []) ≡ enumerate_from n xs ++ (n + length xs, x) ∷ []
enumerate_push {X} n [] x = let at : n ≡ n + 0 = omega arith in ap (λ (k : ℕ). (k, x) ∷ []) at
enumerate_push {X} n (y ∷ xs) x =
    let at : n + 1 + length xs ≡ n + suc (length xs) = omega arith in
    ap (λ (l : List (ℕ × X)). (n, y) ∷ l) (enumerate_push (n + 1) xs x ∙ ap (λ (k : ℕ). enumerate_from (n + 1) xs ++ (k, x) ∷ []) at)

pub numbered_more : (objects : List Obj) (entries : List Entry) (k : ℕ) (entry : Entry) → k < length objects → entry.0 ≡ k → entry.1.now ≡ get_or objects k entry.1.now → map seen entries ≡ enumerate_from 0 (take k objects) → map seen (entries ++ entry ∷ []) ≡ enumerate_from 0 (take (k + 1) objects)
numbered_more objects entries k entry low place object so_far =
    let long : length (take k objects) ≡ k = length-take-le k objects (omega arith) in
    let at : 0 + length (take k objects) ≡ entry.0 = omega arith in
    let all : enumerate_from 0 (take (k + 1) objects) ≡ enumerate_from 0 (take k objects) ++ (entry.0, entry.1.now) ∷ [] =
    ap (enumerate_from 0) (take_more objects k entry.1.now low)
    ∙ enumerate_push 0 (take k objects) (get_or objects k entry.1.now)
    ∙ ap (λ (n : ℕ). enumerate_from 0 (take k objects) ++ (n, get_or objects k entry.1.now) ∷ []) at
    ∙ ap (λ (o : Obj). enumerate_from 0 (take k objects) ++ (entry.0, o) ∷ []) (sym object) in
    map-append seen entries (entry ∷ []) ∙ ap (λ (l : List (ℕ × Obj)). l ++ (entry.0, entry.1.now) ∷ []) so_far ∙ sym all

-- ---- all places, each of them one of an object

length_placed : {X : Type 0} (less : X → X → Bool) (x : X) (ys : List X) → length (placed less x ys) ≡ suc (length ys)
unfolding placed
length_placed less x [] = refl
length_placed less x (y ∷ ys) =
    let rest : length (placed less x ys) ≡ suc (length ys) = length_placed less x ys in
    elim (cases_Bool (less y x)) [ inl is ↦ rw is (omega arith) | inr isnt ↦ rw isnt refl ]

length_in_order : {X : Type 0} (less : X → X → Bool) (xs : List X) → length (in_order less xs) ≡ length xs
unfolding in_order
length_in_order less [] = refl
length_in_order less (x ∷ xs) =
    let rest : length (in_order less xs) ≡ length xs = length_in_order less xs in
    let all : length (placed less x (in_order less xs)) ≡ suc (length (in_order less xs)) = length_placed less x (in_order less xs) in
    omega arith

each_placed : {X : Type 0} (P : X → Type 0) (less : X → X → Bool) (x : X) (ys : List X) → P x → AllByRecursion P ys → AllByRecursion P (placed less x ys)
unfolding placed
each_placed P less x [] here all = (here, tt)
each_placed P less x (y ∷ ys) here all =
    elim (cases_Bool (less y x)) [ inl is ↦ rw is (all.0, each_placed P less x ys here all.1) | inr isnt ↦ rw isnt (here, all) ]

each_in_order : {X : Type 0} (P : X → Type 0) (less : X → X → Bool) (xs : List X) → AllByRecursion P xs → AllByRecursion P (in_order less xs)
unfolding in_order
each_in_order P less [] all = tt
each_in_order P less (x ∷ xs) all = each_placed P less x (in_order less xs) all.0 (each_in_order P less xs all.1)

each_numbered : {X : Type 0} (bound n : ℕ) (xs : List X) → n + length xs ≤ bound → AllByRecursion (λ (e : ℕ × X). e.0 < bound) (enumerate_from n xs)
each_numbered bound n [] le = tt
each_numbered bound n (x ∷ xs) le = (omega arith, each_numbered bound (n + 1) xs (omega arith))

each_place : {X : Type 0} (bound : ℕ) (xs : List (ℕ × X)) → AllByRecursion (λ (e : ℕ × X). e.0 < bound) xs → AllByRecursion (λ place. place < bound) (map (λ (e : ℕ × X). e.0) xs)
each_place bound [] all = tt
each_place bound (x ∷ xs) all = (all.0, each_place bound xs all.1)

pub first_count : (objects : List Obj) → length (first_places objects) ≡ length objects
unfolding first_places
first_count objects =
    length-map (in_order (λ a b. is_lt (first_cmp a.1 b.1)) (enumerate_from 0 objects)) (λ (e : ℕ × Obj). e.0)
    ∙ length_in_order (λ a b. is_lt (first_cmp a.1 b.1)) (enumerate_from 0 objects)
    ∙ length-enumerate_from 0 objects

pub first_within : (objects : List Obj) → All (λ place. place < length objects) (first_places objects)
unfolding first_places
first_within objects =
    All-from_recursion (λ place. place < length objects) (map (λ (e : ℕ × Obj). e.0) (in_order (λ a b. is_lt (first_cmp a.1 b.1)) (enumerate_from 0 objects)))
    (each_place (length objects) (in_order (λ a b. is_lt (first_cmp a.1 b.1)) (enumerate_from 0 objects))
    (each_in_order (λ (e : ℕ × Obj). e.0 < length objects) (λ a b. is_lt (first_cmp a.1 b.1)) (enumerate_from 0 objects) (each_numbered (length objects) 0 objects (omega arith))))

pub id_count : (objects : List Obj) → length (id_places objects) ≡ length objects
unfolding id_places
id_count objects =
    length-map (in_order (λ a b. is_lt (id_cmp a.1.id b.1.id)) (enumerate_from 0 objects)) (λ (e : ℕ × Obj). e.0)
    ∙ length_in_order (λ a b. is_lt (id_cmp a.1.id b.1.id)) (enumerate_from 0 objects)
    ∙ length-enumerate_from 0 objects

pub id_within : (objects : List Obj) → All (λ place. place < length objects) (id_places objects)
unfolding id_places
id_within objects =
    All-from_recursion (λ place. place < length objects) (map (λ (e : ℕ × Obj). e.0) (in_order (λ a b. is_lt (id_cmp a.1.id b.1.id)) (enumerate_from 0 objects)))
    (each_place (length objects) (in_order (λ a b. is_lt (id_cmp a.1.id b.1.id)) (enumerate_from 0 objects))
    (each_in_order (λ (e : ℕ × Obj). e.0 < length objects) (λ a b. is_lt (id_cmp a.1.id b.1.id)) (enumerate_from 0 objects) (each_numbered (length objects) 0 objects (omega arith))))
