-- One token of a text lies in it.
use Rattle.ddl_read.proofs.Common.{◌≡◌, ℕ, ◌<◌, ◌≤◌, true, List, length, arith, slice_index_or, Piece, are_joined, are_joined_from}

pub first_within : (limit : ℕ) (ps qs : List Piece) (d : Piece) → qs ≡ ps → are_joined limit ps ≡ true → 0 < length qs → ((slice_index_or qs 0 d).token.start ≤ limit) × ((slice_index_or qs 0 d).token.end ≤ limit)
unfolding are_joined are_joined_from
first_within limit ps qs d same e some = grind arith
