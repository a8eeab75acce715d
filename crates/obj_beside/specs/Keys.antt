-- The keys of tables in groups by their tables; a group has them as they stand in the list.
use Rattle.std.specs.Prelude.{ℕ, ℤ, pos}
use Rattle.obj_graph.specs.declared.key_of.KeyOf.{KeyOf}

-- a key by its table
abbrev pub by_table : KeyOf → ℕ × ℤ
by_table k = (k.table, pos 0)
