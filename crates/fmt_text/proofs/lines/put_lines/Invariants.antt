use Rattle.std.proofs.Common.{◌≡◌, ◌++◌, take}
use Rattle.std.specs.List.{flat_map}
use Rattle.fmt_text.specs.Lines.{line}
use Rattle.fmt_text.proofs.lines.put_lines.Given as goal

abbrev pub invariant-loop-text : goal.invariant-loop-text
invariant-loop-text l = l.out.items ≡ l.fn.out.items ++ flat_map (λ text. line text.now) (take l.text-index l.lines)
