-- What a pattern hits.
-- A character is a byte and the bytes of 128 to 191 behind it, as UTF-8 writes it.
use Rattle.std.specs.Prelude.{ℕ, Bool, true, false, ◌&&◌, ◌||◌, ◌==◌, nat_le, nat_lt, List, [], ◌∷◌, Option, Some, None, codes, if◌then◌else◌}
use Rattle.std.specs.Str.{bytes_eq}
use Rattle.patterns.specs.declared.atom.Atom.{Atom}
use Rattle.patterns.specs.declared.atom.Atom.TheVariants.{Byte, One, Many}
use Rattle.patterns.specs.Parts.{Parts}

-- a byte that goes on with a character
abbrev pub goes_on : ℕ → Bool
goes_on b = nat_le 128 b && nat_lt b 192

-- what stands behind the bytes that go on with a character
abbrev pub behind_character : List ℕ → List ℕ
behind_character [] = []
behind_character (b ∷ rest) = if goes_on b then behind_character rest else b ∷ rest

-- the test holds of some end of the name, the whole or the empty one too
abbrev pub some_end : (List ℕ → Bool) → List ℕ → Bool
some_end test [] = test []
some_end test (b ∷ rest) = test (b ∷ rest) || some_end test rest

-- whether a part of a pattern is the whole name
abbrev pub matches : List Atom → List ℕ → Bool
matches [] [] = true
matches [] (b ∷ rest) = false
matches (Byte x ∷ atoms) [] = false
matches (Byte x ∷ atoms) (b ∷ rest) = x == b && matches atoms rest
matches (One ∷ atoms) [] = false
matches (One ∷ atoms) (b ∷ rest) = matches atoms (behind_character rest)
matches (Many ∷ atoms) name = some_end (matches atoms) name

-- without a schema part it is the schema public
abbrev pub schema_matches : Option (List Atom) → List ℕ → Bool
schema_matches None schema = bytes_eq schema (codes "public")
schema_matches (Some atoms) schema = matches atoms schema

unfoldable pub hits : Parts → List ℕ → List ℕ → Bool
hits pattern schema name = schema_matches pattern.schema schema && matches pattern.name name
