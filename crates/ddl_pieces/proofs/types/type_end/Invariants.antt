use Rattle.ddl_pieces.proofs.Common.{◌-◌, length, drop, scan, lexemes, typing}
use Rattle.ddl_pieces.proofs.Scanning.{IsLeft}
use Rattle.ddl_pieces.proofs.types.type_end.Given as goal

-- the tokens so far and those behind the place are the type's
abbrev pub invariant-tokens : goal.invariant-tokens
invariant-tokens l = IsLeft typing (scan typing typing.start (drop l.from (lexemes l.text l.pieces))) (lexemes l.text l.pieces) l.from l.at l.spot

abbrev pub decreases-tokens : goal.decreases-tokens
decreases-tokens l = length l.pieces - l.at
