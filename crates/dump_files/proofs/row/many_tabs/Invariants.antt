-- The tabs so far are counted.
use Rattle.std.proofs.Common.{◌≡◌, ◌≤◌, eqb, take}
use Rattle.std.specs.List.{count_by}
use Rattle.copy_text.specs.Marks.{tab}
use Rattle.dump_files.proofs.row.many_tabs.Given as goal

abbrev pub invariant-loop-byte : goal.invariant-loop-byte
invariant-loop-byte l = (l.count ≡ count_by (λ b. eqb b tab) (take l.byte-index l.line)) × (l.count ≤ l.byte-index)
