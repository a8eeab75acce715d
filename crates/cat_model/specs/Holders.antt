-- The order of those who have rights on an object: its owner, everyone, then roles by their names' bytes.
-- Names and texts are lists of bytes, and are compared byte by byte.
use Rattle.std.specs.Prelude.{ℕ, List, [], ◌∷◌}
use Rattle.std.specs.declared.cmp.Ordering.{Ordering}
use Rattle.std.specs.Ordering.{nat_cmp}
use Rattle.std.specs.Cmp.Lexicographic.{slice_cmp}
use Rattle.cat_model.specs.declared.holder.Holder.{Holder}
use Rattle.cat_model.specs.declared.holder.Holder.TheVariants.{Owner, Public, Role}

-- a name and a text are lists of bytes
abbrev pub Bytes : Type 0
Bytes = List ℕ

abbrev pub bytes_cmp : Bytes → Bytes → Ordering
bytes_cmp = slice_cmp nat_cmp

-- the place of a holder's kind, then its name
abbrev pub holder_code : Holder → List Bytes
holder_code Owner = (0 ∷ []) ∷ []
holder_code Public = (1 ∷ []) ∷ []
holder_code (Role name) = (2 ∷ []) ∷ name ∷ []

abbrev pub holder_cmp : Holder → Holder → Ordering
holder_cmp a b = slice_cmp bytes_cmp (holder_code a) (holder_code b)
