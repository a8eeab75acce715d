-- What the rows of one table after another give, behind what was there.
use Rattle.std.proofs.Common.{◌≡◌, List, ◌++◌, ap, append_assoc, ◌∙◌}
use Rattle.std.specs.List.{flat_map}

-- the first table
pub first : {R A : Type 0} (f : R → List A) (os xs : List A) (seen rows : List R) → xs ≡ os ++ flat_map f seen → seen ≡ rows → xs ≡ os ++ flat_map f rows
first f os xs seen rows added is = added ∙ ap (λ rs. os ++ flat_map f rs) is

-- one more table
pub behind : {R A : Type 0} (f : R → List A) (os es xs ys : List A) (seen rows : List R) → xs ≡ os ++ es → ys ≡ xs ++ flat_map f seen → seen ≡ rows → ys ≡ os ++ (es ++ flat_map f rows)
behind f os es xs ys seen rows so added is =
    added
    ∙ ap (λ rs. xs ++ flat_map f rs) is
    ∙ ap (λ b. b ++ flat_map f rows) so
    ∙ append_assoc os es (flat_map f rows)
