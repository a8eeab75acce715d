-- The list of an archive's entries, as text: a head in comments, and a line for each entry that is shown.
-- The ends of lines in what is shown are spaces, as in a script's comments.
use Rattle.std.specs.Prelude.{ℕ, ◌-◌, ◌^◌, ℤ, pos, ◌+ℤ◌, List, [], ◌++◌, length, slice_get, if◌then◌else◌, codes, decimal}
use Rattle.std.specs.List.{flat_map}
use Rattle.std.specs.Option.{option_to_list}
use Rattle.std.specs.Fmt.{format_spec, styled_signed_decimal}
use Rattle.toc_entry.specs.declared.entry.Entry.{Entry}
use Rattle.toc_layout.specs.Heads.{Instant, HeadFields}
use Rattle.fmt_text.specs.Lines.{shown, shown_or_dash}
use Rattle.fmt_text.specs.Parts.{is_of_session, text_or_none}

-- at least so many signs, with zeros in front of the digits
abbrev pub padded : ℕ → ℤ → List ℕ
padded width n = styled_signed_decimal (format_spec 32 0 4 width (2 ^ 64 - 1)) n

abbrev pub day_text : ℤ → ℤ → ℤ → List ℕ
day_text year month day = padded 4 year ++ (codes "-" ++ (padded 2 month ++ (codes "-" ++ padded 2 day)))

-- years count from 1900, months from 0
abbrev pub date : Instant → List ℕ
date m = day_text (m.year +ℤ pos 1900) (m.mon +ℤ pos 1) m.mday

abbrev pub time : Instant → List ℕ
time m = padded 2 m.hour ++ (codes ":" ++ (padded 2 m.min ++ (codes ":" ++ padded 2 m.sec)))

-- when the archive was made
abbrev pub created : Instant → List ℕ
created m = codes ";\n; Archive created at " ++ date m ++ codes " " ++ time m

-- the head of a list of so many entries
unfoldable pub list_head : HeadFields → ℕ → List ℕ
list_head head n = created head.moment ++ (codes "\n;     dbname: " ++ shown head.dbname) ++ (codes "\n;     TOC Entries: " ++ decimal n) ++ codes "\n;\n"

abbrev pub numbers_of : Entry → List ℕ
numbers_of e = (decimal e.dump_id ++ codes "; ") ++ (decimal e.tableoid ++ codes " ") ++ (decimal e.oid ++ codes " ")

abbrev pub names_of : Entry → List ℕ
names_of e = (shown e.desc ++ codes " ") ++ (shown_or_dash e.namespace ++ codes " ") ++ (shown e.tag ++ codes " ")

unfoldable pub line_of : Entry → List ℕ
line_of e = numbers_of e ++ names_of e ++ shown (text_or_none e.owner) ++ codes "\n"

-- what sets up the session and the database itself are not shown
abbrev pub list_line : Entry → List ℕ
list_line e = if is_of_session e.desc then [] else line_of e

-- the list of these entries, all of which count
unfoldable pub list_text : HeadFields → List Entry → List ℕ
list_text head entries = list_head head (length entries) ++ flat_map list_line entries

-- the entries at places
abbrev pub entries_at : List Entry → List ℕ → List Entry
entries_at entries places = flat_map (λ i. option_to_list (slice_get entries i)) places
