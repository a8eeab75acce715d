-- The patterns so far, with those of the words that are left, are those of all.
use Rattle.std.proofs.Common.{◌≡◌, ◌++◌, map}
use Rattle.std.specs.Vec.Iter.{into_iter_items, into_iter_len}
use Rattle.command_line.specs.declared.lists.PatternWord.{PatternWord}
use Rattle.command_line.proofs.lists.Patterns.into_patterns.Given as goal

abbrev pub invariant-words : goal.invariant-words
invariant-words l = l.patterns.items ++ map (λ (word : PatternWord). word.pattern) (into_iter_items l.left) ≡ map (λ (word : PatternWord). word.pattern) l.fn.self

abbrev pub decreases-words : goal.decreases-words
decreases-words l = into_iter_len l.left
