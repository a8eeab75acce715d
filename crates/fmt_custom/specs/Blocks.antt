-- The blocks of a custom archive, which hold the rows.
use Rattle.std.specs.Prelude.{ℕ, zero, suc, ◌==◌, ◌-◌, ℤ, pos, negsuc, List, [], ◌∷◌, length, Option, Some, None, unwrap_or, Result, Ok, Err, if◌then◌else◌}
use Rattle.toc_parts.specs.Parts.{Part, Reading, nothing, ◌then◌, behind, seen, understood, raised, listed, Items}
use Rattle.toc_parts.specs.declared.fault.FieldFault.{FieldFault}
use Rattle.toc_parts.specs.declared.fault.FieldFault.TheVariants as fields
use Rattle.toc_parts.specs.Fields.{byte, run, integer}
use Rattle.toc_layout.specs.declared.fault.ArchiveFault.{ArchiveFault}
use Rattle.toc_layout.specs.declared.fault.ArchiveFault.TheVariants as faults
use Rattle.toc_table.specs.Ids.{is_among}
use Rattle.fmt_custom.specs.declared.fault.BlockHalt.{BlockHalt}
use Rattle.fmt_custom.specs.declared.fault.BlockHalt.TheVariants.{Short, Block, WrongId, RepeatedBlock, LargeObjects}

abbrev pub in_block : FieldFault → BlockHalt
in_block fields.Short = Short
in_block (fields.BadString left) = Short

-- the fault in bytes of this length
abbrev pub placed_block_fault : ℕ → BlockHalt → ArchiveFault
placed_block_fault len Short = faults.Short len
placed_block_fault len (Block left) = faults.Block (len - left)
placed_block_fault len (WrongId n) = faults.WrongId n
placed_block_fault len (RepeatedBlock left) = faults.RepeatedBlock (len - left)
placed_block_fault len (LargeObjects left) = faults.LargeObjects (len - left)

abbrev pub whole : Part BlockHalt ℤ
whole = raised in_block (integer fields.Short)

-- ---- pieces

-- the length of a piece, or that there are no more, which 0 says
abbrev pub piece_length_of : ℤ → Option (Option ℕ)
piece_length_of (pos zero) = Some None
piece_length_of (pos (suc n)) = Some (Some (suc n))
piece_length_of (negsuc n) = None

abbrev pub shown_piece_length : Option ℕ → ℤ
shown_piece_length None = pos 0
shown_piece_length (Some n) = pos n

abbrev pub piece_length : Part BlockHalt (Option ℕ)
piece_length = understood piece_length_of shown_piece_length (λ v left. Block left) whole

abbrev pub piece_bytes : Option ℕ → Part BlockHalt (Option (List ℕ))
piece_bytes None = nothing None
piece_bytes (Some n) = seen Some (λ v. unwrap_or v []) (run Short n)

abbrev pub told_length : Option (List ℕ) → Option ℕ
told_length None = None
told_length (Some v) = Some (length v)

-- a length and so many bytes; a length of 0 ends the pieces
unfoldable pub piece : Part BlockHalt (Option (List ℕ))
piece = behind piece_length piece_bytes told_length

abbrev pub pieces : Part BlockHalt (List (List ℕ))
pieces = listed piece

-- the bytes behind what was read
abbrev pub rest_of : {E A : Type 0} → Reading E A → Result (List ℕ) E
rest_of (Ok x) = Ok x.1
rest_of (Err e) = Err e

abbrev pub pieces_then : (List ℕ → List (List ℕ)) → Option (List ℕ) → List ℕ → List (List ℕ)
pieces_then more None rest = []
pieces_then more (Some v) rest = v ∷ more rest

-- the pieces at the front of bytes, as far as they can be read
abbrev pub pieces_by : (List ℕ → List (List ℕ)) → Reading BlockHalt (Option (List ℕ)) → List (List ℕ)
pieces_by more (Ok x) = pieces_then more x.0 x.1
pieces_by more (Err e) = []

-- each takes a byte at least, so at most n are there
unfoldable pub pieces_at : ℕ → List ℕ → List (List ℕ)
pieces_at zero bytes = []
pieces_at (suc n) bytes = pieces_by (pieces_at n) (piece.read bytes)

abbrev pub pieces_in : List ℕ → List (List ℕ)
pieces_in bytes = pieces_at (length bytes) bytes

-- ---- blocks

abbrev pub bad_tag : ℕ → ℕ → BlockHalt
bad_tag b left = if b == 3 then LargeObjects left else Block left

-- 1 begins a block, 3 one of large objects
abbrev pub tag : Part BlockHalt (Unit {0})
tag = understood (λ b. if b == 1 then Some tt else None) (λ v. 1) bad_tag (byte Short)

-- the dump id of an entry with rows
abbrev pub known_in : List ℕ → ℤ → Option ℕ
known_in known (pos n) = if is_among known n then Some n else None
known_in known (negsuc n) = None

abbrev pub known_id : List ℕ → Part BlockHalt ℕ
known_id known = understood (known_in known) pos (λ v left. WrongId v) whole

-- of which no block came before
abbrev pub first_in : List ℕ → Unit {0} × ℕ → Option ℕ
first_in earlier x = if is_among earlier x.1 then None else Some x.1

unfoldable pub block_start : List ℕ → List ℕ → Part BlockHalt ℕ
block_start known earlier = understood (first_in earlier) (λ n. (tt, n)) (λ v left. RepeatedBlock left) (tag then known_id known)

-- the dump id and the pieces of the rows
abbrev pub block : List ℕ → List ℕ → Part BlockHalt (ℕ × List (List ℕ))
block known earlier = block_start known earlier then pieces

-- blocks one after another, each of another of the known ids; the ids so far are the state
abbrev pub blocks : List ℕ → Items BlockHalt (ℕ × List (List ℕ))
blocks known = record {
  State = List ℕ;
  item = block known;
  next = λ earlier b. b.0 ∷ earlier;
}
