-- What holds of a part of the layout, so that its reader, its writer and its spellings say the same.
-- Each part that is built by the combinators has these laws where its own parts have them.
use Rattle.std.specs.Prelude.{◌≡◌, ℕ, ◌<◌, List, ◌++◌, length, Ok}
use Rattle.toc_parts.specs.Parts.{Part, Items}

-- the front of the bytes spells the value
pub record Found {E A : Type 0} (p : Part E A) (bytes : List ℕ) (v : A) (rest : List ℕ) : Type 0 where
  pub front : List ℕ
  pub parts : bytes ≡ front ++ rest
  pub spells : p.Spells v front

-- What is read is spelled so; what is spelled so is read, whatever follows; and what is written spells the value.
pub record Lawful {E A : Type 0} (p : Part E A) : Type 0 where
  pub found : (bytes : List ℕ) (v : A) (rest : List ℕ) → p.read bytes ≡ Ok (v, rest) → Found p bytes v rest
  pub only : (v : A) (front rest : List ℕ) → p.Spells v front → p.read (front ++ rest) ≡ Ok (v, rest)
  pub written : (v : A) → p.Fits v → p.Spells v (p.write v)

-- each spelling has a byte at least
abbrev pub TakesByte : {E A : Type 0} → Part E A → Type 0
TakesByte {E} {A} p = (v : A) (bytes : List ℕ) → p.Spells v bytes → 0 < length bytes

-- the laws of each item
pub record LawfulItems {E A : Type 0} (items : Items E A) : Type 0 where
  pub laws : (s : items.State) → Lawful (items.item s)
  pub some : (s : items.State) → TakesByte (items.item s)
