-- The labels so far.
use Rattle.std.proofs.Common.{◌≡◌, map, take}
use Rattle.dump_stmts.proofs.types.label_texts.Given as goal

abbrev pub invariant-loop-row : goal.invariant-loop-row
invariant-loop-row l = l.labels.items ≡ map (λ e. e.enumlabel) (map (λ r. r.now) (take l.row-index l.rows))
