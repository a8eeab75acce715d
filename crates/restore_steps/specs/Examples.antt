-- Worked examples: entries that are taken, and what is left out of others.
use Rattle.std.specs.Prelude.{List, ℕ, Option, Some, None, codes}
use Rattle.fmt_text.specs.Examples.{entry_of}
use Rattle.toc_entry.specs.declared.entry.Entry.{Entry}

-- an entry of this desc and tablespace
abbrev pub entry_in : List ℕ → Option (List ℕ) → Entry
entry_in desc tablespace = record (entry_of desc (codes "t") (Some (codes "")) (Some (codes "public")) (Some (codes "alice"))) { tablespace = tablespace }
