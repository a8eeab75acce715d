use Rattle.ddl_pieces.proofs.Common.{◌-◌, length, collected}
use Rattle.ddl_pieces.proofs.Collects.{IsLeft, AreSoFar}
use Rattle.ddl_pieces.proofs.collecting.collect.Given as goal

-- the tokens so far and those behind the place are the statement's
abbrev pub invariant-tokens : goal.invariant-tokens
invariant-tokens l = record {
  left : IsLeft (collected l.text l.from) l.text l.pieces.items l.at;
  so_far : AreSoFar l.text l.from l.at l.pieces.items;
}

abbrev pub decreases-tokens : goal.decreases-tokens
decreases-tokens l = length l.text - l.at
