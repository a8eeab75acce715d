-- How a table of contents is shown.
use Rattle.std.specs.Prelude.{ℕ, List, [], map, Option, Result, Ok, Err}
use Rattle.cat_model.specs.Values.{Bytes}
use Rattle.toc_entry.specs.declared.entry.Entry.{Entry}
use Rattle.dump_toc.specs.Toc.{Refusal}

abbrev pub entries_in : Result (List Entry) Refusal → List Entry
entries_in (Ok entries) = entries
entries_in (Err why) = []

-- the number of an entry, its kind, what it is called and which entries it lists
abbrev pub Line : Type 0
Line = ℕ × (Bytes × (Bytes × List ℕ))

abbrev pub line : ℕ → Bytes → Bytes → List ℕ → Line
line id desc tag depends = (id, (desc, (tag, depends)))

abbrev pub lines : List Entry → List Line
lines entries = map (λ e. line e.dump_id e.desc e.tag e.depends) entries

abbrev pub definitions : List Entry → List (Option Bytes)
definitions entries = map (λ e. e.defn) entries
