-- A block that is written is read.
use Rattle.std.proofs.Common.{◌≡◌, ℕ, zero, suc, ◌<◌, ◌^◌, true, false, pos, List, [], ◌∷◌, ◌++◌, length, Some, None, Ok, refl, arith}
use Rattle.std.specs.List.{AllByRecursion}
use Rattle.toc_parts.specs.declared.fault.FieldFault.TheVariants as fields
use Rattle.toc_parts.specs.Parts.{FitsListed}
use Rattle.toc_parts.proofs.FieldFits.{integer_fits, natural_is_part}
use Rattle.toc_table.specs.Ids.{is_among}
use Rattle.fmt_custom.specs.Blocks.{whole, piece_length_of, piece, known_in, first_in, block_start, block}
use Rattle.fmt_custom.specs.Stored.{block_by, IsPiece}
use Rattle.fmt_custom.proofs.BlockLaws.{block_laws}

whole_fits : (n : ℕ) → n < 2 ^ 32 → whole.Fits (pos n)
whole_fits n low = integer_fits fields.Short (pos n) (natural_is_part n low)

length_is : (n : ℕ) → 0 < n → piece_length_of (pos n) ≡ Some (Some n)
length_is zero some = absurd (omega arith)
length_is (suc n) some = refl

end_fits : piece.Fits None
unfolding piece
end_fits = ((refl, whole_fits 0 (omega arith)), refl)

piece_fits : (bytes : List ℕ) → IsPiece bytes → piece.Fits (Some bytes)
unfolding piece
piece_fits bytes is = ((length_is (length bytes) is.0, whole_fits (length bytes) is.1), (refl, refl))

pieces_fit : (ps : List (List ℕ)) → AllByRecursion IsPiece ps → FitsListed piece ps
pieces_fit [] are = end_fits
pieces_fit (p ∷ ps) are = (piece_fits p are.0, pieces_fit ps are.1)

known_is : (known : List ℕ) (id : ℕ) → is_among known id ≡ true → known_in known (pos id) ≡ Some id
known_is known id is = rw is refl

first_is : (earlier : List ℕ) (id : ℕ) → is_among earlier id ≡ false → first_in earlier (tt, id) ≡ Some id
first_is earlier id new = rw new refl

start_fits : (known earlier : List ℕ) (id : ℕ) → is_among known id ≡ true → is_among earlier id ≡ false → id < 2 ^ 32 → (block_start known earlier).Fits id
unfolding block_start
start_fits known earlier id is new low = (first_is earlier id new, ((refl, tt), (known_is known id is, whole_fits id low)))

pub block_is : (known earlier : List ℕ) (id : ℕ) (ps : List (List ℕ)) (rest : List ℕ) → is_among known id ≡ true → is_among earlier id ≡ false → id < 2 ^ 32 → AllByRecursion IsPiece ps
    → (block known earlier).read (block_by true id ps ++ rest) ≡ Ok ((id, ps), rest)
unfolding block_start
block_is known earlier id ps rest is new low are =
    (block_laws known earlier).only (id, ps) (block_by true id ps) rest
    ((block_laws known earlier).written (id, ps) (start_fits known earlier id is new low, pieces_fit ps are))
