-- The parts of a pattern.
-- A dot outside quotes ends the schema's part, and what stands behind it is the name's.
use Rattle.std.specs.Prelude.{Bool, true, false, ◌||◌, List, [], ◌∷◌, ◌++◌, Option, Some}
use Rattle.patterns.specs.declared.atom.Atom.{Atom}
use Rattle.patterns.specs.declared.marks.Mark.{Mark}
use Rattle.patterns.specs.declared.marks.Mark.TheVariants as mark

pub record Parts : Type 0 where
  pub schema : Option (List Atom)
  pub name : List Atom

-- the parts, where these atoms came so far
abbrev pub parts_from : Option (List Atom) → List Atom → List Mark → Parts
parts_from schema name [] = record { schema = schema; name = name }
parts_from schema name (mark.Dot ∷ rest) = parts_from (Some name) [] rest
parts_from schema name (mark.Atom a ∷ rest) = parts_from schema (name ++ a ∷ []) rest

-- some part has no atom; `empty` says that the part has none so far
abbrev pub has_empty : Bool → List Mark → Bool
has_empty empty [] = empty
has_empty empty (mark.Dot ∷ rest) = empty || has_empty true rest
has_empty empty (mark.Atom a ∷ rest) = has_empty false rest
