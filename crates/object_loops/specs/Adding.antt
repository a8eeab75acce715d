-- Rows of things, added behind others.
use Rattle.std.specs.Prelude.{◌≡◌, List, ◌++◌}
use Rattle.map_export.specs.Making.{AreSaid}

-- rows of these things, one of each in their order, stand behind those that were there
abbrev pub Adds : {T R : Type 0} → (T → R → Type 0) → List T → List R → List R → Type 0
Adds {R = R} Says things before after = (more : List R) × (after ≡ before ++ more) × AreSaid Says things more
