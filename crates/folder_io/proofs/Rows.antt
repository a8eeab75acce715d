-- Whether there are rows is the same of rows and of their cells.
use Rattle.std.proofs.Common.{◌≡◌, List, [], ◌∷◌, map, refl}
use Rattle.folder_io.specs.Beyond.{has_one}

pub mapped_one : {A B : Type 0} (f : A → B) (xs : List A) → has_one (map f xs) ≡ has_one xs
mapped_one f [] = refl
mapped_one f (x ∷ xs) = refl
