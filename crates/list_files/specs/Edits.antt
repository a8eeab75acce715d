-- What a list file makes of the entries of an archive: which of them are taken, in which order.
use Rattle.std.specs.Prelude.{ℕ, ◌+◌, Bool, false, ◌==◌, List, [], ◌∷◌, ◌++◌, length, reverse, slice_get, slice_index_or, Option, Some, None, option_and_then, Result, Ok, Err, if◌then◌else◌}
use Rattle.std.specs.List.{list_all, list_any, filter, fold, range_with_len}
use Rattle.std.specs.Option.{option_map_or, option_to_list}
use Rattle.toc_entry.specs.declared.entry.Entry.{Entry}
use Rattle.entry_choices.specs.declared.options.Options.{Options}
use Rattle.entry_choices.specs.Kinds.{is_one_of, session_kinds}
use Rattle.entry_choices.specs.Choices.{wanted_marks, wanted_places}
use Rattle.list_files.specs.declared.fault.ListFault.{ListFault}
use Rattle.list_files.specs.declared.fault.ListFault.TheVariants.{NotANumber, UnknownId}
use Rattle.list_files.specs.Lines.{lines, content, is_digit, number}

-- ---- the entry that a line names

-- the place of the entry with this id, of entries with the last one first
abbrev pub place_among : List Entry → ℕ → Option ℕ
place_among [] id = None
place_among (e ∷ before) id = if e.dump_id == id then Some (length before) else place_among before id

abbrev pub place_of : List Entry → ℕ → Option ℕ
place_of entries id = place_among (reverse entries) id

abbrev pub named : ℕ → Option ℕ → Result (Option ℕ) ListFault
named n None = Err (UnknownId n)
named n (Some place) = Ok (Some place)

abbrev pub said_by : List Entry → ℕ → List ℕ → Result (Option ℕ) ListFault
said_by entries n [] = Ok None
said_by entries n (b ∷ bs) = if list_all is_digit (b ∷ bs) then named n (option_and_then (place_of entries) (number (b ∷ bs))) else Err (NotANumber n)

-- the place of the entry that the line with a number names; a blank line names none
abbrev pub said : List Entry → ℕ → List ℕ → Result (Option ℕ) ListFault
said entries n line = said_by entries n (content line)

-- ---- all lines

abbrev pub joined : Result (Option ℕ) ListFault → Result (List ℕ) ListFault → Result (List ℕ) ListFault
joined (Err fault) more = Err fault
joined (Ok place) (Err fault) = Err fault
joined (Ok place) (Ok places) = Ok (option_to_list place ++ places)

-- the places that lines name, the first of which has this number; the first line without one counts
abbrev pub mentions : List Entry → ℕ → List (List ℕ) → Result (List ℕ) ListFault
mentions entries n [] = Ok []
mentions entries n (line ∷ more) = joined (said entries n line) (mentions entries (n + 1) more)

-- what sets up the session
abbrev pub is_session_at : List Entry → ℕ → Bool
is_session_at entries i = option_map_or (λ e. is_one_of session_kinds e.desc) (slice_get entries i) false

abbrev pub session_places : List Entry → List ℕ
session_places entries = filter (is_session_at entries) (range_with_len 0 (length entries))

-- a place behind others, where it isn't among them
abbrev pub put : List ℕ → ℕ → List ℕ
put places i = if list_any (λ j. j == i) places then places else places ++ i ∷ []

abbrev pub in_order : List ℕ → Result (List ℕ) ListFault → Result (List ℕ) ListFault
in_order first (Err fault) = Err fault
in_order first (Ok places) = Ok (fold put first places)

-- What sets up the session comes first, in the order of the archive, then what the list names, each at its first mention.
unfoldable pub edited : List Entry → List ℕ → Result (List ℕ) ListFault
edited entries list = in_order (session_places entries) (mentions entries 1 (lines list))

-- ---- with options

-- the places that are marked
abbrev pub marked : List Bool → List ℕ → List ℕ
marked marks places = filter (λ i. slice_index_or marks i false) places

abbrev pub those_wanted : Options → List Entry → Result (List ℕ) ListFault → Result (List ℕ) ListFault
those_wanted o entries (Err fault) = Err fault
those_wanted o entries (Ok places) = Ok (marked (wanted_marks o entries) places)

-- the places of the entries that a restore takes, in the order of its list, or of the archive
abbrev pub chosen : Options → List Entry → Option (List ℕ) → Result (List ℕ) ListFault
chosen o entries None = Ok (wanted_places o entries)
chosen o entries (Some list) = those_wanted o entries (edited entries list)
