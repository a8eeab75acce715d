-- What is left of a part of a pattern and of a name where the part was followed up to its first `*`.
use Rattle.std.specs.Prelude.{ℕ, Bool, true, false, ◌==◌, List, [], ◌∷◌, Option, Some, None, if◌then◌else◌}
use Rattle.patterns.specs.declared.atom.Atom.{Atom}
use Rattle.patterns.specs.declared.atom.Atom.TheVariants.{Byte, One, Many}
use Rattle.patterns.specs.declared.hits.Left.{Left}
use Rattle.patterns.specs.declared.hits.Left.TheVariants as left
use Rattle.patterns.specs.Matching.{behind_character}

pub data Rest : Type 0 where
  -- the part has ended; this is left of the name
  AtEnd : List ℕ → Rest
  -- the atoms behind the `*`, and the name
  AtMany : List Atom → List ℕ → Rest

abbrev pub left_of : List Atom → List ℕ → Option Rest
left_of [] name = Some (AtEnd name)
left_of (Many ∷ atoms) name = Some (AtMany atoms name)
left_of (One ∷ atoms) [] = None
left_of (One ∷ atoms) (b ∷ rest) = left_of atoms (behind_character rest)
left_of (Byte x ∷ atoms) [] = None
left_of (Byte x ∷ atoms) (b ∷ rest) = if x == b then left_of atoms rest else None

-- a `*`, or the end of the part and of the name too
abbrev pub is_found : Option Rest → Bool
is_found None = false
is_found (Some (AtEnd [])) = true
is_found (Some (AtEnd (b ∷ rest))) = false
is_found (Some (AtMany atoms name)) = true

abbrev pub or_later : Option Rest → Option Rest → Option Rest
or_later here later = if is_found here then here else later

-- what is left from the first place at which there is such a thing
abbrev pub found_in : List Atom → List ℕ → Option Rest
found_in atoms [] = or_later (left_of atoms []) None
found_in atoms (b ∷ rest) = or_later (left_of atoms (b ∷ rest)) (found_in atoms rest)

abbrev pub seen : Option Left → Option Rest
seen None = None
seen (Some (left.End name)) = Some (AtEnd name.now)
seen (Some (left.Many atoms name)) = Some (AtMany atoms.now name.now)
