-- Bytes that are put out behind others, and counted.
use Rattle.std.specs.Prelude.{◌≡◌, ℕ, ◌+◌, List, ◌++◌, length, Option, Some, None, option_map}
use Rattle.dump_ports.specs.Tree.{Tree, patched, HasRange, TakesPrefix}
use Rattle.dump_files.specs.Outlets.{Outside, Stands}

-- more was put out behind a text, but for the bytes that wait; so many are out
pub record Grown (target : Option (List ℕ)) (text : List ℕ) (before now : Outside) (waiting : List ℕ) (passed : ℕ) : Type 0 where
  pub more : List ℕ
  pub stands : Stands target (text ++ more) before now waiting
  pub count : passed + length waiting ≡ length (text ++ more)

-- a file that is written has so many bytes at least
abbrev pub HasRoom : Option (List ℕ) → Option Tree → ℕ → Type 0
HasRoom None tree len = Unit {0}
HasRoom (Some name) tree len = HasRange tree name 0 len

-- the first bytes of a file are these now
abbrev pub IsRefronted : Option (List ℕ) → List ℕ → Option Tree → Option Tree → Type 0
IsRefronted None front before now = now ≡ before
IsRefronted (Some name) front before now = now ≡ option_map (patched name 0 front) before

-- some first part of them, or nothing changed
abbrev pub IsPartRefronted : Option (List ℕ) → List ℕ → Option Tree → Option Tree → Type 0
IsPartRefronted None front before now = ⊥
IsPartRefronted (Some name) front before now = TakesPrefix (patched name 0) front before now
