-- Texts that are put out one after another: on standard output, to files that are made anew, or over the first bytes of a
-- file. And what stands there once all of them are, or some first part.
use Rattle.std.specs.Prelude.{◌≡◌, ◌++◌, ◌⊎◌, ℕ, List, [], ◌∷◌, Option, Some, None, option_map}
use Rattle.dump_ports.specs.Tree.{patched}
use Rattle.dump_files.specs.Outlets.{Outside, outside, outputs}

-- standard output, a file that is made anew, or the first bytes of a file
pub data Place : Type 0 where
  Printed : Place
  Stored : List ℕ → Place
  Patched : List ℕ → Place

-- the file of this name, or standard output where none is told
abbrev pub place_of : Option (List ℕ) → Place
place_of None = Printed
place_of (Some name) = Stored name

-- a text and its place
pub record Piece : Type 0 where
  pub place : Place
  pub text : List ℕ

-- once a text is put in a place
abbrev pub put_out : Place → List ℕ → Outside → Outside
put_out Printed text o = outputs None text o
put_out (Stored name) text o = outputs (Some name) text o
put_out (Patched name) text o = outside (option_map (patched name 0 text) o.tree) o.written

abbrev pub all_out : List Piece → Outside → Outside
all_out [] o = o
all_out (piece ∷ pieces) o = all_out pieces (put_out piece.place piece.text o)

-- none of the first of these pieces, or a first part of its text
abbrev pub AreBegun : List Piece → List Piece → Type 0
AreBegun [] begun = begun ≡ []
AreBegun (piece ∷ later) begun = (begun ≡ []) ⊎ ((part : List ℕ) × (rest : List ℕ) × (piece.text ≡ part ++ rest) × (begun ≡ record { place = piece.place; text = part } ∷ []))

-- some first pieces, whole, and then none or a first part of the next one
pub record IsFront (pieces front : List Piece) : Type 0 where
  pub whole : List Piece
  pub later : List Piece
  pub split : pieces ≡ whole ++ later
  pub last : List Piece
  pub begun : AreBegun later last
  pub is : front ≡ whole ++ last

-- some first part of these pieces was put out
pub record PartOut (pieces : List Piece) (before after : Outside) : Type 0 where
  pub front : List Piece
  pub is : IsFront pieces front
  pub put : after ≡ all_out front before
