-- Archives in the custom format: the head, the entries, and for each entry with rows its block.
use Rattle.std.specs.Prelude.{ℕ, zero, suc, ◌-◌, false, ◌==◌, ◌&&◌, pos, List, [], ◌∷◌, length, map, Option, Some, None, is_none, Result, Ok, Err, if◌then◌else◌}
use Rattle.toc_parts.specs.Parts.{◌>>=◌, raised_at}
use Rattle.toc_entry.specs.declared.entry.Entry.{Entry}
use Rattle.toc_entry.specs.declared.entry.Extra.{Extra}
use Rattle.toc_entry.specs.declared.entry.Extra.TheVariants.{Place, File}
use Rattle.toc_layout.specs.declared.fault.ArchiveFault.{ArchiveFault}
use Rattle.toc_layout.specs.declared.fault.ArchiveFault.TheVariants as faults
use Rattle.toc_layout.specs.Heads.{HeadFields, head_in}
use Rattle.toc_table.specs.Tables.{toc, lefts, placed_toc_fault, ids_with_rows}
use Rattle.fmt_custom.specs.declared.fault.BlockHalt.{BlockHalt}
use Rattle.fmt_custom.specs.declared.fault.BlockStop.{BlockStop}
use Rattle.fmt_custom.specs.declared.fault.BlockStop.TheVariants as stops
use Rattle.fmt_custom.specs.Blocks.{block, placed_block_fault}

-- a block: its entry's dump id, its place, and the pieces of its rows
pub record Found : Type 0 where
  pub id : ℕ
  pub start : ℕ
  pub pieces : List (List ℕ)

abbrev pub ids_of : List Found → List ℕ
ids_of found = map (λ f. f.id) found

-- The blocks up to the end of the bytes, the last one first, behind those that were found; `len` is the length of all of
-- the bytes. Each takes a byte at least, so at most n are there.
unfoldable pub found_at : ℕ → List ℕ → ℕ → List Found → List ℕ → Result (List Found) BlockHalt
found_at len known n found [] = Ok found
found_at len known zero found (b ∷ bytes) = Ok found
found_at len known (suc n) found (b ∷ bytes) =
    (block known (ids_of found)).read (b ∷ bytes)
    >>= λ x. found_at len known n (record { id = x.0.0; start = len - length (b ∷ bytes); pieces = x.0.1 } ∷ found) x.1

abbrev pub found_in : ℕ → List ℕ → List ℕ → Result (List Found) BlockHalt
found_in len known bytes = found_at len known (length bytes) [] bytes

-- the pieces of an entry's rows
abbrev pub pieces_of : ℕ → List Found → Option (List (List ℕ))
pieces_of id [] = None
pieces_of id (f ∷ found) = if f.id == id then Some f.pieces else pieces_of id found

-- the dump id of the block at a place
abbrev pub block_at : ℕ → List Found → Option ℕ
block_at start [] = None
block_at start (f ∷ found) = if f.start == start then Some f.id else block_at start found

-- an offset is the place of the entry's own block; else it is at fault, at its first byte
abbrev pub leads : ℕ → ℕ → Option ℕ → Option ArchiveFault
leads place id None = Some (faults.Block place)
leads place id (Some other) = if other == id then None else Some (faults.WrongId (pos other))

-- offsets count in state 2 alone
abbrev pub offset_fault : List Found → ℕ → ℕ → Extra → Option ArchiveFault
offset_fault found place id (Place state offset) = if state == 2 then leads place id (block_at offset found) else None
offset_fault found place id (File name) = None

-- an entry with rows has a block
abbrev pub entry_fault_in : List Found → ℕ → Entry → Option ArchiveFault
entry_fault_in found place e =
    if e.has_rows && is_none (pieces_of e.dump_id found) then Some (faults.NoBlock e.dump_id)
    else offset_fault found place e.dump_id e.extra

abbrev pub or_else : Option ArchiveFault → Option ArchiveFault → Option ArchiveFault
or_else (Some f) other = Some f
or_else None other = other

-- the first fault of the entries; an offset is the last eight bytes of its entry
unfoldable pub first_fault : List Found → ℕ → List Entry → List ℕ → Option ArchiveFault
first_fault found len [] ls = None
first_fault found len (e ∷ es) [] = None
first_fault found len (e ∷ es) (left ∷ ls) = or_else (entry_fault_in found (len - left - 8) e) (first_fault found len es ls)

-- what an archive holds
pub record Custom : Type 0 where
  pub head : HeadFields
  pub entries : List Entry
  pub found : List Found

abbrev pub unless : {A : Type 0} → Option ArchiveFault → A → Result A ArchiveFault
unless (Some f) x = Err f
unless None x = Ok x

abbrev pub raised_to : {E F A : Type 0} → (E → F) → Result A E → Result A F
raised_to f (Ok x) = Ok x
raised_to f (Err e) = Err (f e)

-- the archive of which the entries and blocks stand in these bytes; `len` is the length of all of the bytes
abbrev pub custom_behind : ℕ → HeadFields → List ℕ → Result Custom ArchiveFault
custom_behind len head rest =
    raised_at (placed_toc_fault len) ((toc false).read rest)
    >>= λ t. raised_to (placed_block_fault len) (found_in len (ids_with_rows [] t.0) t.1)
    >>= λ found. unless (first_fault found len t.0 (lefts false rest)) (record { head = head; entries = t.0; found = found })

abbrev pub of_format : ℕ → HeadFields → List ℕ → Result Custom ArchiveFault
of_format len head rest = if head.format == 1 then custom_behind len head rest else Err (faults.WrongFormat head.format)

unfoldable pub custom_in : List ℕ → Result Custom ArchiveFault
custom_in bytes = raised_at faults.Head (head_in bytes) >>= λ h. of_format (length bytes) h.0 h.1

abbrev pub block_halt : BlockStop → Option BlockHalt
block_halt (stops.Halt h) = Some h
block_halt stops.Memory = None
