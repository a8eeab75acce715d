-- What a writer of a custom archive writes.
use Rattle.std.specs.Prelude.{ℕ, pos, List, ◌∷◌, ◌++◌}
use Rattle.toc_entry.specs.declared.entry.Entry.{Entry}
use Rattle.toc_entry.specs.declared.entry.Extra.TheVariants.{Place}
use Rattle.toc_layout.specs.Heads.{HeadFields, head, head_seen}
use Rattle.toc_table.specs.Writing.{toc_text}
use Rattle.fmt_custom.specs.declared.writer.CustomWriter.{CustomWriter}
use Rattle.fmt_custom.specs.Blocks.{whole}

-- the head and the entries that a writer has
abbrev pub head_in_writer : CustomWriter → HeadFields
head_in_writer w = head_seen w.head

abbrev pub entries_in_writer : CustomWriter → List Entry
entries_in_writer w = w.entries.items

-- the head and the table of contents
abbrev pub front_text : HeadFields → List Entry → List ℕ
front_text h es = head.write h ++ toc_text es

-- an entry whose block is at a place
abbrev pub placed_entry : ℕ → Entry → Entry
placed_entry offset e = record e { extra = Place 2 offset }

-- what begins the block of a dump id
abbrev pub start_text : ℕ → List ℕ
start_text id = 1 ∷ whole.write (pos id)
