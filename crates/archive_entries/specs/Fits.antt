-- Of which heads and entries an archive can be made that reads as these.
use Rattle.std.specs.Prelude.{ℕ, ◌<◌, ◌≤◌, ◌==◌, ◌&&◌, nat_le, nat_lt, Bool, true, List, [], ◌∷◌, All, length, Option, Some, None}
use Rattle.toc_entry.specs.declared.entry.Entry.{Entry}
use Rattle.toc_entry.specs.declared.entry.Extra.{Extra}
use Rattle.toc_entry.specs.declared.entry.Extra.TheVariants.{Place, File}
use Rattle.toc_layout.specs.Heads.{HeadFields}
use Rattle.toc_layout.specs.Writable.{HeadCanBeWritten, EntryCanBeWritten}

-- ---- texts

-- shorter than 2^32 bytes
abbrev pub is_short : List ℕ → Bool
is_short text = nat_lt (length text) 4294967296

abbrev pub is_short_or_none : Option (List ℕ) → Bool
is_short_or_none None = true
is_short_or_none (Some text) = is_short text

-- ---- one entry

abbrev pub has_short_labels : Entry → Bool
has_short_labels e = is_short e.tag && is_short e.desc

abbrev pub has_short_statements : Entry → Bool
has_short_statements e = is_short_or_none e.defn && (is_short_or_none e.drop_stmt && is_short_or_none e.copy_stmt)

abbrev pub has_short_setting : Entry → Bool
has_short_setting e = is_short_or_none e.namespace && (is_short_or_none e.tablespace && (is_short_or_none e.tableam && is_short_or_none e.owner))

-- a state is 1 to 3
abbrev pub is_extra : Extra → Bool
is_extra (Place state offset) = nat_le 1 state && nat_le state 3
is_extra (File name) = is_short name

-- a section is 1 to 4
abbrev pub is_section : ℕ → Bool
is_section section = nat_le 1 section && nat_le section 4

unfoldable pub can_be_told : Entry → Bool
can_be_told e = is_section e.section && (has_short_labels e && (has_short_statements e && (has_short_setting e && is_extra e.extra)))

-- ---- all of them

-- one that can be told, with a dump id behind this one
abbrev pub is_next : ℕ → Entry → Bool
is_next last e = nat_lt last e.dump_id && can_be_told e

-- each is the next
unfoldable pub are_told : ℕ → List Entry → Bool
are_told last [] = true
are_told last (e ∷ es) = is_next last e && are_told e.dump_id es

-- a head of version 1.15 without compression, with short texts
abbrev pub is_head : HeadFields → Bool
is_head h = h.major == 1 && (h.minor == 15 && (h.compression == 0 && (is_short h.dbname && (is_short h.server && is_short h.dumper))))

-- at most 200,000 entries, in the order of their dump ids
unfoldable pub can_be_archived : HeadFields → List Entry → Bool
can_be_archived h es = is_head h && (nat_le (length es) 200000 && are_told 0 es)

-- ---- what that says

-- dump ids rise behind this one
abbrev pub Rise : ℕ → List Entry → Type 0
Rise last [] = Unit {0}
Rise last (e ∷ es) = (last < e.dump_id) × Rise e.dump_id es

-- an archive can be made of them
pub record CanBeArchived (h : HeadFields) (es : List Entry) : Type 0 where
  pub head : HeadCanBeWritten h
  pub few : length es ≤ 200000
  pub each : All EntryCanBeWritten es
  pub rise : Rise 0 es
