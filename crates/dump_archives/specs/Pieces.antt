-- The pieces in which the rows of an entry stand in a custom archive: 65,536 bytes each, and where bytes are left a last
-- shorter one. No piece is empty.
use Rattle.std.specs.Prelude.{ℕ, zero, suc, List, [], ◌∷◌, length, take, drop}
use Rattle.fmt_custom.specs.Stored.{pieces_out}

-- pieces of a size, at most n of them
unfoldable pub cut : ℕ → ℕ → List ℕ → List (List ℕ)
cut size zero bytes = []
cut size (suc n) [] = []
cut size (suc n) (b ∷ bytes) = take size (b ∷ bytes) ∷ cut size n (drop size (b ∷ bytes))

-- each has a byte at least
abbrev pub cut_all : ℕ → List ℕ → List (List ℕ)
cut_all size bytes = cut size (length bytes) bytes

abbrev pub piece_size : ℕ
piece_size = 65536

abbrev pub pieces_of : List ℕ → List (List ℕ)
pieces_of bytes = cut_all piece_size bytes

-- how they stand in the archive
abbrev pub packed : List ℕ → List ℕ
packed bytes = pieces_out (pieces_of bytes)
