-- The keys of a set.
use Rattle.std.specs.Prelude.{ℕ, Bool, List}
use Rattle.key_sets.specs.declared.key_set.KeySet.{KeySet}
use Rattle.key_sets.specs.Numbers.{has}

-- the set holds the key
abbrev pub holds : KeySet → List ℕ → Bool
holds set key = has set.numbered.items set.others key
