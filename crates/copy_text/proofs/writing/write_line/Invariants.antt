use Rattle.std.proofs.Common.{◌≡◌, ◌++◌, take}
use Rattle.std.specs.List.{All}
use Rattle.copy_text.specs.Rows.{spell_row, IsField}
use Rattle.copy_text.proofs.writing.write_line.Given as goal

abbrev pub invariant-loop-i : goal.invariant-loop-i
invariant-loop-i l = (l.out.items ≡ l.fn.out.items ++ spell_row (take l.i l.row)) × All IsField (take l.i l.row)
