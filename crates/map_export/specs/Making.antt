-- Rows of what entries say.
use Rattle.std.specs.Prelude.{List, [], ◌∷◌, Option, Some, None}

-- a row of a thing, or none of none
abbrev pub IsRowOf : {T R : Type 0} → (T → R → Type 0) → Option T → Option R → Type 0
IsRowOf Says None None = Unit {0}
IsRowOf Says None (Some row) = ⊥
IsRowOf Says (Some thing) None = ⊥
IsRowOf Says (Some thing) (Some row) = Says thing row

-- rows of things, one of each, in their order
abbrev pub AreSaid : {T R : Type 0} → (T → R → Type 0) → List T → List R → Type 0
AreSaid Says [] [] = Unit {0}
AreSaid Says [] (row ∷ rows) = ⊥
AreSaid Says (thing ∷ things) [] = ⊥
AreSaid Says (thing ∷ things) (row ∷ rows) = Says thing row × AreSaid Says things rows
