-- Objects with their places, and the places of a kind.
use Rattle.std.proofs.Common.{◌≡◌, ℕ, ◌+◌, ◌<◌, Bool, List, [], ◌∷◌, ◌++◌, length, map, get_or, take, inl, inr, refl, sym, ap, ◌∙◌, arith}
use Rattle.std.specs.Prelude.{if◌then◌else◌}
use Rattle.std.specs.List.{filter, flat_map, enumerate_from}
use Rattle.std.proofs.lemmas.Bool.{cases_Bool}
use Rattle.std.proofs.lemmas.List.{append-nil, length-take-le, map-append, take_more}
use Rattle.std.proofs.lemmas.List.Concat.{flat_map-append}
use Rattle.std.proofs.lemmas.List.Elements.{filter-append}
use Rattle.graph_parts.specs.declared.object.Obj.{Obj}
use Rattle.graph_parts.specs.declared.object.ObjKind.{ObjKind}
use Rattle.dep_sort.specs.Cut.{places_of}
use Rattle.dep_sort.proofs.Sorting.{enumerate_push}

pub enumerate_more : {X : Type 0} (xs : List X) (k : ℕ) (x : X) → k < length xs → x ≡ get_or xs k x → enumerate_from 0 (take (k + 1) xs) ≡ enumerate_from 0 (take k xs) ++ (k, x) ∷ []
enumerate_more {X} xs k x low is =
    let long : length (take k xs) ≡ k = length-take-le k xs (omega arith) in
    let at : 0 + length (take k xs) ≡ k = omega arith in
    ap (enumerate_from 0) (take_more xs k x low)
    ∙ enumerate_push 0 (take k xs) (get_or xs k x)
    ∙ ap (λ (n : ℕ). enumerate_from 0 (take k xs) ++ (n, get_or xs k x) ∷ []) at
    ∙ ap (λ (o : X). enumerate_from 0 (take k xs) ++ (k, o) ∷ []) (sym is)

pub map_numbered_more : {X Y : Type 0} (f : ℕ × X → Y) (xs : List X) (k : ℕ) (x : X) → k < length xs → x ≡ get_or xs k x → map f (enumerate_from 0 (take (k + 1) xs)) ≡ map f (enumerate_from 0 (take k xs)) ++ f (k, x) ∷ []
map_numbered_more f xs k x low is = ap (map f) (enumerate_more xs k x low is) ∙ map-append f (enumerate_from 0 (take k xs)) ((k, x) ∷ [])

pub flat_map_numbered_more : {X Y : Type 0} (f : ℕ × X → List Y) (xs : List X) (k : ℕ) (x : X) → k < length xs → x ≡ get_or xs k x → flat_map f (enumerate_from 0 (take (k + 1) xs)) ≡ flat_map f (enumerate_from 0 (take k xs)) ++ f (k, x)
flat_map_numbered_more {X} {Y} f xs k x low is =
    ap (flat_map f) (enumerate_more xs k x low is)
    ∙ flat_map-append f (enumerate_from 0 (take k xs)) ((k, x) ∷ [])
    ∙ ap (λ (l : List Y). flat_map f (enumerate_from 0 (take k xs)) ++ l) (append-nil (f (k, x)))

pub places_more : (test : ObjKind → Bool) (objects : List Obj) (k : ℕ) (object : Obj) → k < length objects → object ≡ get_or objects k object → places_of test (take (k + 1) objects) ≡ places_of test (take k objects) ++ (if test object.kind then k ∷ [] else [])
unfolding places_of
places_more test objects k object low is =
    ap (λ (l : List (ℕ × Obj)). map (λ (e : ℕ × Obj). e.0) (filter (λ (e : ℕ × Obj). test e.1.kind) l)) (enumerate_more objects k object low is)
    ∙ ap (map (λ (e : ℕ × Obj). e.0)) (filter-append (λ (e : ℕ × Obj). test e.1.kind) (enumerate_from 0 (take k objects)) ((k, object) ∷ []))
    ∙ map-append (λ (e : ℕ × Obj). e.0) (filter (λ (e : ℕ × Obj). test e.1.kind) (enumerate_from 0 (take k objects))) (filter (λ (e : ℕ × Obj). test e.1.kind) ((k, object) ∷ []))
    ∙ elim (cases_Bool (test object.kind)) [ inl yes' ↦ rw yes' refl | inr no' ↦ rw no' refl ]
