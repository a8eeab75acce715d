use Rattle.ddl_relations.proofs.Common.{◌≡◌, ◌-◌, length, drop, sequence_clauses}
use Rattle.ddl_grammar_laws.proofs.SequenceLaws.{left}
use Rattle.ddl_relations.proofs.sequences.sequence_clauses.Given as goal

-- what is read from the place on is what is read from the first
abbrev pub invariant-clauses : goal.invariant-clauses
invariant-clauses l = sequence_clauses.read (drop l.from l.pieces) ≡ left l.said (drop l.at l.pieces)

abbrev pub decreases-clauses : goal.decreases-clauses
decreases-clauses l = length l.pieces - l.at
