-- The lines in which a restore tells what came of its entries, each begun with the name of the tool that tells it.
-- Names of entries are told as they are.
use Rattle.std.specs.Prelude.{ℕ, suc, ◌+◌, ◌==◌, Bool, true, false, List, [], ◌∷◌, ◌++◌, length, take, drop, Option, Some, None, codes, decimal, count_by, if◌then◌else◌}
use Rattle.std.specs.List.{flat_map}
use Rattle.cat_model.specs.declared.cause.Cause.{Cause}
use Rattle.cat_model.specs.Values.{Bytes}
use Rattle.restore_plan.specs.declared.status.EntryStatus.{EntryStatus}
use Rattle.restore_plan.specs.declared.status.EntryStatus.TheVariants.{Done, Refused, Skipped}
use Rattle.restore_plan.specs.declared.status.Note.{Note}
use Rattle.toc_entry.specs.declared.entry.Entry.{Entry}
use Rattle.tool_words.specs.Messages.{cause_text}

-- ---- one line

-- an entry by its dump id, its kind and its name
abbrev pub entry_words : Entry → List ℕ
entry_words e = codes "entry " ++ decimal e.dump_id ++ (codes " " ++ e.desc) ++ (codes " " ++ e.tag)

abbrev pub reason : Cause → List ℕ
reason cause = codes ": " ++ cause_text cause ++ 10 ∷ []

-- a statement of an entry was refused
abbrev pub error_line : Bytes → Entry → Cause → List ℕ
error_line teller e cause = teller ++ codes ": error: " ++ entry_words e ++ reason cause

-- an entry was skipped
abbrev pub skip_line : Bytes → Entry → ℕ → List ℕ
skip_line teller e by = teller ++ codes ": " ++ entry_words e ++ (codes " skipped: depends on entry " ++ decimal by ++ codes "\n")

abbrev pub warning_line : Bytes → ℕ → List ℕ
warning_line teller n = teller ++ codes ": warning: errors ignored on restore: " ++ decimal n ++ codes "\n"

-- ---- all lines

-- what is told of an entry's status
abbrev pub status_line : Bytes → Entry → EntryStatus → List ℕ
status_line teller e Done = []
status_line teller e (Refused stmt cause) = error_line teller e cause
status_line teller e (Skipped by) = skip_line teller e by

-- how many of the notes at the front are of the entry with this dump id
abbrev pub own : ℕ → List Note → ℕ
own id [] = 0
own id (note ∷ notes) = if note.dump_id == id then suc (own id notes) else 0

-- the lines of an entry's owner statements that were refused
abbrev pub note_lines : Bytes → Entry → List Note → List ℕ
note_lines teller e notes = flat_map (λ note. error_line teller e note.cause) notes

-- The lines of entries, one after another, and of what came of each: its notes, which stand in the order of the entries, and
-- then that it was refused or skipped.
abbrev pub entry_lines : Bytes → List Entry → List EntryStatus → List Note → List ℕ
entry_lines teller [] statuses notes = []
entry_lines teller (e ∷ es) [] notes = []
entry_lines teller (e ∷ es) (status ∷ statuses) notes =
    note_lines teller e (take (own e.dump_id notes) notes) ++ status_line teller e status ++ entry_lines teller es statuses (drop (own e.dump_id notes) notes)

abbrev pub is_refused : EntryStatus → Bool
is_refused (Refused stmt cause) = true
is_refused _ = false

-- the errors of a restore: refused entries, and owner statements that were refused
abbrev pub errors : List EntryStatus → List Note → ℕ
errors statuses notes = count_by is_refused statuses + length notes

-- how many there were, where there were any
abbrev pub warning : Bytes → ℕ → List ℕ
warning teller n = if n == 0 then [] else warning_line teller n

-- what is told of a restore
unfoldable pub report : Bytes → List Entry → List EntryStatus → List Note → List ℕ
report teller entries statuses notes = entry_lines teller entries statuses notes ++ warning teller (errors statuses notes)

-- ---- a restore that stopped

-- an entry's dump id, and why a statement of it was refused
abbrev pub Stopping : Type 0
Stopping = ℕ × Cause

abbrev pub stop_line : Bytes → Stopping → List ℕ
stop_line teller stop = teller ++ codes ": error: stopped at entry " ++ decimal stop.0 ++ reason stop.1

abbrev pub stop_told : Bytes → Option Stopping → List ℕ
stop_told teller None = []
stop_told teller (Some stop) = stop_line teller stop
