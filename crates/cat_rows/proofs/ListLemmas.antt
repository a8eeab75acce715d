-- Lists that grow at the end.
use Rattle.std.proofs.Common.{◌≡◌, List, [], ◌∷◌, ◌++◌, map, refl, ap, ◌∙◌, append_assoc}

pub map_push : {X Y : Type 0} (f : X → Y) (xs : List X) (x : X) → map f (xs ++ x ∷ []) ≡ map f xs ++ f x ∷ []
map_push f [] x = refl
map_push {X} {Y} f (y ∷ ys) x = ap (λ (rest : List Y). f y ∷ rest) (map_push f ys x)

-- an element that was added stands in front of what is added next
pub one_more : {X : Type 0} (a b xs : List X) (x : X) → a ≡ b ++ x ∷ [] → a ++ xs ≡ b ++ x ∷ xs
one_more {X} a b xs x is = ap (λ (l : List X). l ++ xs) is ∙ append_assoc b (x ∷ []) xs
