use Rattle.std.proofs.Common.{◌≡◌, ◌++◌, List, ℕ, length}
use Rattle.dump_archives.specs.Pieces.{packed}
use Rattle.dump_archives.proofs.pack.pack_pieces.Given as goal

-- the pieces so far wait
abbrev pub invariant-loop-rest : goal.invariant-loop-rest
invariant-loop-rest l = (more : List ℕ) × (l.waiting.items ≡ l.fn.waiting.items ++ more) × ((rest : List ℕ) → packed (l.fn.run ++ rest) ≡ more ++ packed (l.rest ++ rest))

abbrev pub decreases-loop-rest : goal.decreases-loop-rest
decreases-loop-rest l = length l.rest
