-- A table of contents: the number of its entries, and they, each with a dump id of its own.
use Rattle.std.specs.Prelude.{ℕ, nat_le, Bool, ℤ, pos, negsuc, List, [], ◌∷◌, length, Option, Some, None, Ok, Err, if◌then◌else◌}
use Rattle.toc_parts.specs.Parts.{Part, ◌then◌, behind, seen, understood, raised, Items, counted, lefts_at, Reading}
use Rattle.toc_entry.specs.declared.entry.Entry.{Entry}
use Rattle.toc_layout.specs.declared.fault.EntryHalt.TheVariants.{BadNumber}
use Rattle.toc_layout.specs.declared.fault.EntryStop.{EntryStop}
use Rattle.toc_layout.specs.declared.fault.EntryStop.TheVariants as entry_stops
use Rattle.toc_layout.specs.declared.fault.ArchiveFault.{ArchiveFault}
use Rattle.toc_layout.specs.declared.fault.ArchiveFault.TheVariants as faults
use Rattle.toc_layout.specs.Faults.{placed_entry_fault}
use Rattle.toc_layout.specs.Entries.{whole, dump_id, body, body_of, entry_of}
use Rattle.toc_table.specs.declared.fault.TocHalt.{TocHalt}
use Rattle.toc_table.specs.declared.fault.TocHalt.TheVariants.{Entry as InEntry, TooMany, RepeatedId}
use Rattle.toc_table.specs.declared.fault.TocStop.{TocStop}
use Rattle.toc_table.specs.declared.fault.TocStop.TheVariants as stops
use Rattle.toc_table.specs.Ids.{is_among}

abbrev pub toc_halt : TocStop → Option TocHalt
toc_halt (stops.Halt h) = Some h
toc_halt stops.Memory = None

abbrev pub in_toc : EntryStop → TocStop
in_toc (entry_stops.Halt h) = stops.Halt (InEntry h)
in_toc entry_stops.Memory = stops.Memory

-- the fault in bytes of this length
abbrev pub placed_toc_fault : ℕ → TocHalt → ArchiveFault
placed_toc_fault len (InEntry h) = faults.Entry (placed_entry_fault len h)
placed_toc_fault len (TooMany n) = faults.TooMany n
placed_toc_fault len (RepeatedId id) = faults.RepeatedId id

-- at most 200,000
abbrev pub count_of : ℤ → Option ℕ
count_of (pos n) = if nat_le n 200000 then Some n else None
count_of (negsuc n) = None

abbrev pub bad_count : ℤ → ℕ → TocHalt
bad_count (pos n) left = TooMany n
bad_count (negsuc n) left = InEntry (BadNumber left)

unfoldable pub count : Part TocHalt ℕ
count = understood count_of pos bad_count (raised InEntry whole)

-- a dump id that no earlier entry has
abbrev pub fresh_in : List ℕ → ℕ → Option ℕ
fresh_in earlier id = if is_among earlier id then None else Some id

abbrev pub fresh_id : List ℕ → Part TocHalt ℕ
fresh_id earlier = understood (fresh_in earlier) (λ n. n) (λ id left. RepeatedId id) (raised InEntry dump_id)

unfoldable pub fresh_entry : Bool → List ℕ → Part TocHalt Entry
fresh_entry directory earlier = seen entry_of (λ e. (e.dump_id, body_of e)) (fresh_id earlier then raised InEntry (body directory))

-- the ids so far are the state
abbrev pub entries : Bool → Items TocHalt Entry
entries directory = record {
  State = List ℕ;
  item = fresh_entry directory;
  next = λ earlier e. e.dump_id ∷ earlier;
}

abbrev pub toc : Bool → Part TocHalt (List Entry)
toc directory = behind count (counted (entries directory) []) (λ es. length es)

-- how many bytes are left behind each entry
abbrev pub lefts_by : Bool → Reading TocHalt ℕ → List ℕ
lefts_by directory (Ok x) = lefts_at (entries directory) x.0 [] x.1
lefts_by directory (Err e) = []

abbrev pub lefts : Bool → List ℕ → List ℕ
lefts directory bytes = lefts_by directory (count.read bytes)

-- the dump ids of the entries with rows, behind those that were met
abbrev pub ids_with_rows : List ℕ → List Entry → List ℕ
ids_with_rows met [] = met
ids_with_rows met (e ∷ es) = ids_with_rows (if e.has_rows then e.dump_id ∷ met else met) es
