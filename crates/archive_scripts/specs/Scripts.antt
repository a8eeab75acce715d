-- The plain script of entries of an archive, each with its rows, in the order in which they are chosen.
use Rattle.std.specs.Prelude.{ℕ, Bool, List, [], ◌++◌, slice_get, Option, codes, option_map}
use Rattle.std.specs.List.{flat_map, concat}
use Rattle.std.specs.Option.{option_map_or}
use Rattle.toc_entry.specs.declared.entry.Entry.{Entry}
use Rattle.toc_layout.specs.Heads.{HeadFields}
use Rattle.fmt_text.specs.Lines.{title}
use Rattle.fmt_text.specs.Parts.{part}
use Rattle.fmt_text.specs.Script.{versions, session, script_end}
use Rattle.fmt_custom.specs.Customs.{Custom, pieces_of}

-- a script's head, by that of an archive
unfoldable pub head_text : HeadFields → List ℕ
head_text h = title (codes "PostgreSQL database dump") ++ versions h.server h.dumper ++ session

-- the part of the entry at a place; `rows` has the rows of a dump id
abbrev pub part_at : Bool → List Entry → (ℕ → Option (List ℕ)) → ℕ → List ℕ
part_at owners entries rows i = option_map_or (λ e. part owners e (rows e.dump_id)) (slice_get entries i) []

abbrev pub parts_at : Bool → List Entry → (ℕ → Option (List ℕ)) → List ℕ → List ℕ
parts_at owners entries rows places = flat_map (part_at owners entries rows) places

-- the rows of a dump id in a custom archive
abbrev pub custom_rows : Custom → ℕ → Option (List ℕ)
custom_rows custom id = option_map concat (pieces_of id custom.found)

-- the script of the entries of a custom archive at these places
unfoldable pub custom_script : Bool → Custom → List ℕ → List ℕ
custom_script owners custom places = head_text custom.head ++ parts_at owners custom.entries (custom_rows custom) places ++ script_end
