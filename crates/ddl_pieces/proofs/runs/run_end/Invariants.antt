use Rattle.ddl_pieces.proofs.Common.{◌-◌, length, reverse, drop, scan, lexemes, nested}
use Rattle.ddl_pieces.proofs.Scanning.{IsLeft}
use Rattle.ddl_pieces.proofs.runs.run_end.Given as goal

-- the tokens so far and those behind the place are the run
abbrev pub invariant-tokens : goal.invariant-tokens
invariant-tokens l =
    IsLeft (nested l.bounded l.takes) (scan (nested l.bounded l.takes) (nested l.bounded l.takes).start (drop l.from (lexemes l.text l.pieces))) (lexemes l.text l.pieces) l.from l.at
    (record { brackets = reverse l.brackets.items; spot = l.spot })

abbrev pub decreases-tokens : goal.decreases-tokens
decreases-tokens l = length l.pieces - l.at
