-- Entries that stand behind those that they list.
use Rattle.std.specs.Prelude.{◌≡◌, List, ◌∷◌, ◌++◌, All, map}
use Rattle.std.specs.List.{Contains}
use Rattle.toc_entry.specs.declared.entry.Entry.{Entry}

-- each number that an entry lists is that of an entry before it
abbrev pub AreBehind : List Entry → Type 0
AreBehind entries = (before behind : List Entry) (e : Entry) → entries ≡ before ++ e ∷ behind → All (λ id. Contains (map (λ b. b.dump_id) before) id) e.depends
