-- The laws of blocks and their pieces.
use Rattle.std.proofs.Common.{◌≡◌, ℕ, zero, suc, ◌<◌, ◌≤◌, arith, List, [], ◌∷◌, length, Option, Some, None, pos, Result, Ok, Err, refl, sym, ap, ◌∙◌}
use Rattle.std.specs.Prelude.{unwrap_or}
use Rattle.toc_parts.specs.declared.fault.FieldFault.TheVariants as fields
use Rattle.toc_parts.specs.Parts.{Reading, ◌>>=◌, ◌then◌, listed_by}
use Rattle.toc_parts.specs.Fields.{byte, run, integer}
use Rattle.toc_parts.specs.Laws.{Lawful, TakesByte}
use Rattle.toc_parts.proofs.Simple.{nothing_laws, then_laws, behind_laws, seen_laws, understood_laws, raised_laws, then_some, behind_some, understood_some, raised_some}
use Rattle.toc_parts.proofs.FieldLaws.{byte_laws, byte_some, run_laws, integer_laws, integer_some}
use Rattle.toc_parts.proofs.Steps.{bind_ok, ok_is, fewer}
use Rattle.toc_parts.proofs.Repeated.{listed_laws, unrolled}
use Rattle.fmt_custom.specs.declared.fault.BlockHalt.{BlockHalt}
use Rattle.fmt_custom.specs.declared.fault.BlockHalt.TheVariants.{Short, Block, WrongId, RepeatedBlock}
use Rattle.fmt_custom.specs.Blocks.{in_block, whole, piece_length_of, shown_piece_length, piece_length, piece_bytes, told_length, piece, pieces, rest_of, pieces_then, pieces_by, pieces_at, pieces_in, bad_tag, tag, known_in, known_id, first_in, block_start, block}

whole_laws : Lawful whole
whole_laws = raised_laws in_block (integer fields.Short) (integer_laws fields.Short)

whole_some : TakesByte whole
whole_some = raised_some in_block (integer fields.Short) (integer_some fields.Short)

piece_length_laws : Lawful piece_length
piece_length_laws = understood_laws piece_length_of shown_piece_length (λ v left. Block left) whole whole_laws

piece_length_some : TakesByte piece_length
piece_length_some = understood_some piece_length_of shown_piece_length (λ v left. Block left) whole whole_some

piece_bytes_laws : (n : Option ℕ) → Lawful (piece_bytes n)
piece_bytes_laws None = nothing_laws {E = BlockHalt} {A = Option (List ℕ)} None
piece_bytes_laws (Some n) = seen_laws Some (λ v. unwrap_or v []) (run Short n) (run_laws Short n)

pub piece_laws : Lawful piece
unfolding piece
piece_laws = behind_laws piece_length piece_bytes told_length piece_length_laws piece_bytes_laws

pub piece_some : TakesByte piece
unfolding piece
piece_some = behind_some piece_length piece_bytes told_length piece_length_some

pub pieces_laws : Lawful pieces
pieces_laws = listed_laws piece piece_laws piece_some

tag_laws : Lawful tag
tag_laws = understood_laws _ _ bad_tag (byte Short) (byte_laws Short)

tag_some : TakesByte tag
tag_some = understood_some _ (λ v. 1) bad_tag (byte Short) (byte_some Short)

known_id_laws : (known : List ℕ) → Lawful (known_id known)
known_id_laws known = understood_laws (known_in known) pos (λ v left. WrongId v) whole whole_laws

pub block_start_laws : (known earlier : List ℕ) → Lawful (block_start known earlier)
unfolding block_start
block_start_laws known earlier =
    understood_laws (first_in earlier) (λ n. (tt, n)) (λ v left. RepeatedBlock left) (tag then known_id known) (then_laws tag (known_id known) tag_laws (known_id_laws known))

block_start_some : (known earlier : List ℕ) → TakesByte (block_start known earlier)
unfolding block_start
block_start_some known earlier =
    understood_some (first_in earlier) (λ n. (tt, n)) (λ v left. RepeatedBlock left) (tag then known_id known) (then_some tag (known_id known) tag_some)

pub block_laws : (known earlier : List ℕ) → Lawful (block known earlier)
block_laws known earlier = then_laws (block_start known earlier) pieces (block_start_laws known earlier) pieces_laws

pub block_some : (known earlier : List ℕ) → TakesByte (block known earlier)
block_some known earlier = then_some (block_start known earlier) pieces (block_start_some known earlier)

-- ---- what is left behind pieces

rest_of-more : (v : List ℕ) (r : Reading BlockHalt (List (List ℕ))) → rest_of (r >>= λ y. Ok (v ∷ y.0, y.1)) ≡ rest_of r
rest_of-more v (Ok y) = refl
rest_of-more v (Err e) = refl

one : (bytes : List ℕ) → pieces.read bytes ≡ (piece.read bytes >>= λ x. listed_by pieces.read x.0 x.1)
one bytes = unrolled piece piece_laws piece_some bytes

pub rest_goes_on : (bytes v after : List ℕ) (total : Result (List ℕ) BlockHalt) → piece.read bytes ≡ Ok (Some v, after) → rest_of (pieces.read bytes) ≡ total → rest_of (pieces.read after) ≡ total
rest_goes_on bytes v after total is so_far =
    sym (ap rest_of (one bytes ∙ ap (λ r. r >>= λ x. listed_by pieces.read x.0 x.1) is) ∙ rest_of-more v (pieces.read after)) ∙ so_far

pub rest_ends : (bytes after : List ℕ) (total : Result (List ℕ) BlockHalt) → piece.read bytes ≡ Ok (None, after) → rest_of (pieces.read bytes) ≡ total → total ≡ Ok after
rest_ends bytes after total is so_far = sym so_far ∙ ap rest_of (one bytes ∙ ap (λ r. r >>= λ x. listed_by pieces.read x.0 x.1) is)

pub rest_fails : (bytes : List ℕ) (e : BlockHalt) (total : Result (List ℕ) BlockHalt) → piece.read bytes ≡ Err e → rest_of (pieces.read bytes) ≡ total → total ≡ Err e
rest_fails bytes e total is so_far = sym so_far ∙ ap rest_of (one bytes ∙ ap (λ r. r >>= λ x. listed_by pieces.read x.0 x.1) is)

-- ---- the pieces that were read

pieces_behind : (f g : List ℕ → List (List ℕ)) (bytes : List ℕ) → ((rest : List ℕ) → length rest < length bytes → f rest ≡ g rest) → pieces_by f (piece.read bytes) ≡ pieces_by g (piece.read bytes)
pieces_behind f g bytes same = by (piece.read bytes) refl
  where
    later : (o : Option (List ℕ)) (rest : List ℕ) → piece.read bytes ≡ Ok (o, rest) → pieces_then f o rest ≡ pieces_then g o rest
    later None rest is = refl
    later (Some v) rest is = ap (λ (x : List (List ℕ)). v ∷ x) (same rest (fewer piece piece_laws piece_some bytes (Some v) rest is))

    by : (r : Reading BlockHalt (Option (List ℕ))) → piece.read bytes ≡ r → pieces_by f r ≡ pieces_by g r
    by (Err e) is = refl
    by (Ok x) is = later x.0 x.1 is

none_of_none : (n : ℕ) → pieces_at n [] ≡ []
unfolding pieces_at piece integer
none_of_none zero = refl
none_of_none (suc n) = refl

pieces_enough : (n m : ℕ) (bytes : List ℕ) → length bytes ≤ n → length bytes ≤ m → pieces_at n bytes ≡ pieces_at m bytes
unfolding pieces_at
pieces_enough n m [] low also = none_of_none n ∙ sym (none_of_none m)
pieces_enough zero m (b ∷ bytes) low also = absurd (omega arith)
pieces_enough (suc n) zero (b ∷ bytes) low also = absurd (omega arith)
pieces_enough (suc n) (suc m) (b ∷ bytes) low also =
    pieces_behind (pieces_at n) (pieces_at m) (b ∷ bytes) (λ rest less. pieces_enough n m rest (omega (arith, less, low)) (omega (arith, less, also)))

pub pieces_unrolled : (bytes : List ℕ) → pieces_in bytes ≡ pieces_by pieces_in (piece.read bytes)
unfolding pieces_at
pieces_unrolled bytes =
    pieces_enough (length bytes) (suc (length bytes)) bytes (omega arith) (omega arith) ∙ once (length bytes) bytes
    ∙ pieces_behind (pieces_at (length bytes)) pieces_in bytes (λ rest less. pieces_enough (length bytes) (length rest) rest (omega (arith, less)) (omega arith))
  where
    once : (n : ℕ) (bytes : List ℕ) → pieces_at (suc n) bytes ≡ pieces_by (pieces_at n) (piece.read bytes)
    once n bytes = refl

read_behind : (bytes : List ℕ) (ps : List (List ℕ)) (rest : List ℕ) → ((mid : List ℕ) (qs : List (List ℕ)) (r : List ℕ) → length mid < length bytes → pieces.read mid ≡ Ok (qs, r) → pieces_in mid ≡ qs) → pieces.read bytes ≡ Ok (ps, rest) → pieces_in bytes ≡ ps
read_behind bytes ps rest earlier e =
    let a = bind_ok (piece.read bytes) (λ x. listed_by pieces.read x.0 x.1) (ps, rest) (sym (one bytes) ∙ e) in
    pieces_unrolled bytes ∙ ap (pieces_by pieces_in) a.1 ∙ by a.0.0 a.0.1 a.1 a.2
  where
    by : (o : Option (List ℕ)) (mid : List ℕ) → piece.read bytes ≡ Ok (o, mid) → listed_by pieces.read o mid ≡ Ok (ps, rest) → pieces_then pieces_in o mid ≡ ps
    by None mid is e = ap (λ (x : List (List ℕ) × List ℕ). x.0) (ok_is {E = BlockHalt} ([], mid) (ps, rest) e)
    by (Some v) mid is e =
        let b = bind_ok (pieces.read mid) (λ y. Ok (v ∷ y.0, y.1)) (ps, rest) e in
        ap (λ (x : List (List ℕ)). v ∷ x) (earlier mid b.0.0 b.0.1 (fewer piece piece_laws piece_some bytes (Some v) mid is) b.1)
        ∙ ap (λ (x : List (List ℕ) × List ℕ). x.0) (ok_is {E = BlockHalt} (v ∷ b.0.0, b.0.1) (ps, rest) b.2)

read_by : (n : ℕ) (bytes : List ℕ) (ps : List (List ℕ)) (rest : List ℕ) → length bytes ≤ n → pieces.read bytes ≡ Ok (ps, rest) → pieces_in bytes ≡ ps
read_by zero bytes ps rest low e = read_behind bytes ps rest (λ mid qs r less e. absurd (omega (arith, less, low))) e
read_by (suc n) bytes ps rest low e = read_behind bytes ps rest (λ mid qs r less e. read_by n mid qs r (omega (arith, less, low)) e) e

-- what is read as pieces is these
pub pieces_are : (bytes : List ℕ) (ps : List (List ℕ)) (rest : List ℕ) → pieces.read bytes ≡ Ok (ps, rest) → pieces_in bytes ≡ ps
pieces_are bytes ps rest e = read_by (length bytes) bytes ps rest (omega arith) e
